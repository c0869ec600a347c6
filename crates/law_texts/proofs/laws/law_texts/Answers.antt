use Rattle.std.proofs.Common.{refl}
use Rattle.std.specs.Fmt.{digits}
use Rattle.synic_board.specs.Step.{step}
use Rattle.text_lines.specs.Reading.{item_at}
use Rattle.text_script.specs.Output.{output_on, fault_on}
use Rattle.law_texts.proofs.laws.law_texts.Goals as goal

pub returns-clause-empty : goal.returns-clause-empty
unfolding digits item_at output_on fault_on step
returns-clause-empty c = refl

pub returns-clause-comment : goal.returns-clause-comment
unfolding digits item_at output_on fault_on step
returns-clause-comment c = refl

pub returns-clause-size : goal.returns-clause-size
unfolding digits item_at output_on fault_on step
returns-clause-size c = refl

pub returns-clause-long : goal.returns-clause-long
unfolding digits item_at output_on fault_on step
returns-clause-long c = refl

pub returns-clause-replies : goal.returns-clause-replies
unfolding digits item_at output_on fault_on step
returns-clause-replies c = refl

pub returns-clause-form : goal.returns-clause-form
unfolding digits item_at output_on fault_on step
returns-clause-form c = refl

pub returns-clause-cut : goal.returns-clause-cut
unfolding digits item_at output_on fault_on step
returns-clause-cut c = refl

pub returns-clause-sparse : goal.returns-clause-sparse
unfolding digits item_at output_on fault_on step
returns-clause-sparse c = refl

pub returns-clause-sparse_size : goal.returns-clause-sparse_size
unfolding digits item_at output_on fault_on step
returns-clause-sparse_size c = refl

pub returns-clause-no_pages : goal.returns-clause-no_pages
unfolding digits item_at output_on fault_on step
returns-clause-no_pages c = refl
