use Rattle.std.proofs.Common.{◌≡◌, ◌++◌, ◌∷◌, [], OnOk, rules}
use Rattle.std.proofs.lemmas.Result.{on_ok_weaker}
use Rattle.text_history.proofs.PrintLemmas.{rest-parts}
use Rattle.text_history.proofs.print.put_rest.Goals as goal

pub returns-clause-written : goal.returns-clause-written
returns-clause-written c =
    let last : OnOk c.extend_from_slice.result
    (c.extend_from_slice.new.self.items ≡ c.put_end.new.out.items ++ 10 ∷ []) = search rules in
    on_ok_weaker c.extend_from_slice.result
    (λ h. rest-parts c.args.format c.args.history.now c.args.next_ticket c.args.out.now.items _ _
    c.extend_from_slice.new.self.items
    c.in_ok-put_history.ensures.written c.in_ok-put_end.ensures h)
    last
