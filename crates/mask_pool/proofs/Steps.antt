-- The names of the logic that the walks of this crate cite.
pub use Rattle.std.proofs.Common.{◌≡◌, ℕ, ◌+◌, ◌-◌, ◌*◌, ◌^◌, ◌<◌, ◌≤◌, List, [], ◌∷◌, ◌++◌, length, take, sym, refl, ap, subst, ◌∙◌, arith, length-drop, w64, MutBor}
pub use Rattle.std.proofs.Common.{drop as drop_words}
pub use Rattle.std.proofs.raw_atomic.Walks.{proved}
pub use Rattle.std.proofs.lemmas.List.{drop_at}
pub use lib.ListN.{take-append-drop}
pub use seplogic.Ra.Ura.{Ura}
pub use base.Fraction.{full_share}
pub use mir.Syntax.{Lifetime, Body, named, seq, assign, place, rv_opd, copy, return}
pub use mir.Val.{Val, vint, vptr, vstruct, vcons, vnil}
pub use base.Logic.{SProp, ent, sep, ex, emp, id⊢}
pub use base.Stored.{Gv, coded_list}
pub use base.Fml.{Lft, GName, Share, Fml, ftrue, fsep, fhide, flft, fobs, fbor, Incl-refl}
unfoldable pub use base.Fml.{fseps}
pub use prog.Memory.{Memory}
pub use prog.Routine.{Routine}
pub use prog.Wp.{Env, Calls, Loops, WpFn}
pub use types.Logic.{Logic, sem}
pub use contract.Monad.{Fun, fact, fact_i}
pub use contract.Running.{tables}
pub use types.Kit.{‵, raw, ◌⊛◌, some, later, at_ret, ◌$◌, ◌∵◌, !, qed, move, keep, drop, use0, use1, use2, split, split3, join, group, pick, await, fsplit, fsplit3, fjoin, fpack, feq_i, feq_l, rewrite, suffices, show, updating, now, done}
pub use types.SemTy.{SemTy, cells, Arr, Body as Borrowed}
pub use types.Mut.{open_ref}
pub use types.Follow.{takes_beside}
pub use types.Part.{whole, sub, agg}
pub use types.Run.{stop, fld, addr, hop, from, lit, of_opd, bin, and_then, no_more, first, blocks, exec, returns, enter}
pub use types.ByLocal.{alloc_all, pass_all, free_all, look_at, look_in_at, get, through, sets, sets_last, lands_as, env}
pub use denote.Array.{Array}
pub use denote.Builtin.{u64, usize}
pub use denote.Copied.{uint_Copied}
pub use denote.Exit.{yes, no}
pub use denote.Follow.{follows, follows_then}
pub use denote.FollowSlice.{heres_id, slice_of}
pub use denote.Index.{row, whole_out, whole_in}
pub use denote.Memory.{mem, shared_of}
pub use denote.Plain.{uint_vals, uint_Tells, uint_Makes}
pub use denote.RattleType.{RattleType, owns, Valss}
pub use denote.Ref.{Bor, MutRef, mut_vals, mut_Tells}
pub use denote.Shadow.{pure_i, pure_l}
pub use denote.Shares.{Shares, shares_each_from}
pub use denote.Signature.{plain, mut_ref_to}
pub use denote.Slice.{MutSlice, ShrSlice, Room, slice_val, mut_slice_at, shr_slice_at, coded_holeys, heres, elements_shared}
pub use denote.Steps.{nothing, owned, heard, only}
pub use denote.Struct.Declared.{shape}
pub use denote.Struct.Struct.{within}
pub use denote.Struct.Tuple.{tuple_type}
pub use denote.Triple.Clauses.{Clauses, Lasts, lasts}
pub use denote.Triple.Call.{calls_at}
pub use denote.Triple.Spec.{triple_of}
pub use denote.Triple.Table.{framed}
pub use denote.Triple.Entry.{on_entry}
pub use denote.Triple.Walked.{needs, Stays, stay_dropped, walk_of, ends_at, Goes-dropped, Goes-spent_ref}
pub use borrow.Table.Elements.{at, at_mul, cut_app, join_app, length_app, length-take-le}
