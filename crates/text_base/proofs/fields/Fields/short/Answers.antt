use Rattle.text_base.proofs.FieldLemmas.{number-no_space}
use Rattle.text_base.proofs.fields.Fields.short.Goals as goal

pub past-requires-clause-field : goal.past-requires-clause-field
past-requires-clause-field c =
    number-no_space c.in_ok-rest.rest.now c.args.base c.in_ok-n.n c.in_ok-n.count c.in_ok-n.ensures
