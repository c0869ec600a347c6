use Rattle.std.proofs.Common.{refl}
use Rattle.text_lines.proofs.ReadLemmas.{no-event}
use Rattle.text_lines.proofs.event.perform_event.Goals as goal

pub returns : goal.returns
returns g c = (
  no-event c.args.fields.now (record {
    not_write = c.in_default.ensures.none;
    not_store = c.in_default-after.ensures.none;
    not_take = c.in_default-after-2.ensures.none;
    not_assert = c.in_default-after-3.ensures.none;
    not_tick = c.in_default-after-4.ensures.none;
    not_signal = c.in_default-after-5.ensures.none;
    not_post = c.in_default-after-6.ensures.none;
    not_load = c.in_default-after-7.ensures.none;
    not_read = c.in_default-after-8.ensures.none;
    not_open = c.in_default-after-9.ensures.none;
    not_close = c.in_default-after-10.ensures.none;
    not_absorb = c.in_default-after-11.ensures.none;
    not_suspend = c.in_default-after-12.ensures.none;
    not_resume = c.in_default-after-13.ensures.none;
    not_reset = c.in_default-after-14.ensures.none;
    not_send = c.in_default-after-15.ensures.none;
  }),
  refl,
)
