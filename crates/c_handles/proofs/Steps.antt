-- The names that walks cite.
pub use Rattle.std.proofs.Common.{◌≡◌, ℕ, Bool, true, false, List, [], ◌∷◌, ◌++◌, refl, sym, ap, ◌∙◌, subst, lit<}
pub use mathlib.Core.Bool.{not}
pub use seplogic.Ra.Ura.{Ura}
pub use lib.Dec.{T}
pub use mir.Syntax.{named, Dict, impl, tcons, tnil, dnil}
pub use mir.Val.{Val, vbool, vptr, vstruct, vcons, vnil, has_ty, WT}
pub use mir.Raw.{raw as bare}
pub use base.Fraction.{full_share}
pub use base.Logic.{SProp, ent, sep, emp, never, id⊢, fst∗, never_e}
pub use base.Fml.{Fml, GName, ftrue, fsep, flft, fres}
pub use prog.Wp.{WpFn}
pub use types.Logic.{Logic, sem}
pub use types.Kit.{given, learn, Item, Goal, Seq, Step, step, ‵, raw, ◌⊛◌, some, later, at_ret, ◌$◌, ◌∵◌, !, qed, by, done, move, keep, drop, use0, use1, split, split3, join, fsplit, fsplit3, fjoin, group, fpack, feq_i, feq_l, pick, await, rewrite, suffices}
pub use types.Run.{load, addr, enter, of_opd, un, lit, true_lit, false_lit, fld, stop, no_more, and_then, first, blocks, branches, skips, exec, returns, returns_within}
pub use types.ByLocal.{alloc_all, pass_all, free_all, look_at, get, get_in, through, sets, sets_last, lands_as, lands_last, env}
pub use types.Part.{agg, sub, whole, look_in}
pub use types.Match.{live}
pub use types.Tokens.{lft_new}
pub use contract.Monad.{fact, fact_i}
pub use contract.BorrowLft.{◌⊑◌}
pub use contract.Running.{tables}
pub use denote.Builtin.{bool}
pub use denote.Exit.{yes, no}
pub use denote.RattleType.{RattleType, Valss, owns}
pub use denote.Laws.{Is, shows}
pub use denote.Param.{layout, arg}
pub use denote.Param.Laws.{Laws, arg_laws}
pub use denote.RawPtr.{Ptr, RawPtr, block_ptr, null_ptr, ptr_val, rawptr_Lawful, in_a_block}
pub use denote.Signature.{types_at, plain, mut_ref_to}
pub use denote.Memory.{mem, cell_at, part_at}
pub use denote.Ref.{MutRef, MutBor, mut_vals, mut_Tells}
pub use denote.Follow.{follows, lends_Part}
pub use denote.Steps.{nothing, only, heard, peeks, opens, closes}
pub use denote.Struct.Struct.{within}
pub use denote.Struct.Owning.{shape}
pub use denote.Triple.Call.{calls_at, calls_at_last}
pub use denote.Triple.Clauses.{Lasts, lasts}
pub use denote.Triple.Spec.{triple_of}
pub use denote.Triple.Table.{framed}
pub use denote.Triple.Walked.{Stays, walk_of, stay_dropped, Goes-dropped, Goes-spent_ref}
pub use Rattle.std.proofs.raw_atomic.Walks.{proved, proved_at, leaves}
pub use Rattle.std.proofs.ResultValues.{and_tt}
