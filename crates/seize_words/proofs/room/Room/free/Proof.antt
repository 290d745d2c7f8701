-- A piece given back: one call.
use Rattle.std.proofs.Common.{T, ◌≡◌, List, [], ◌∷◌, ◌++◌, refl, sym, ap, ◌∙◌, subst, w64}
use mir.Syntax.{Ty, Fn, Args, a_type, dcons, dnil, ty_unit}
use mir.Val.{Val, vint, vptr, vunit, has_ty, WT}
use mir.MapTy.{inst_fn}
use base.Logic.{SProp, never, id⊢, fst∗}
use base.Fml.{Lft, Share, Fml, ftrue, fsep, flft}
use prog.Wp.{Env, WpFn}
use contract.BorrowLft.{◌⊑◌, ⊑_trans}
use contract.Monad.{fact}
use contract.Running.{tables}
use types.Logic.{sem}
use types.Kit.{‵, raw, ◌⊛◌, given, later, prop, at_ret, ◌$◌, ◌∵◌, !, qed, by, move, keep, drop, use1, use3, split, join, learn, rewrite, regoal, fsplit, fjoin, feq_i, await}
use types.Part.{whole, sub}
use types.Run.{stop, fld, unit_lit, of_opd, no_more, and_then, first, blocks, exec, returns, enter}
use types.ByLocal.{alloc_all, pass_all, free_all, look_at, get, get_in, sets, lands_last, env}
use denote.Exit.{yes, no}
use denote.Builtin.{RefOf, usize}
use denote.RattleType.{RattleType, owns}
use denote.RawPtr.{Ptr, block_ptr, null_ptr, in_a_block}
use denote.Param.{param, bounded}
use denote.Signature.{types_at, plain}
use denote.Steps.{nothing, heard}
use denote.Triple.Call.{calls_at_last}
use denote.Triple.Walked.{Stays, stay_dropped, walk_of, Goes-dropped}
use Rattle.core.specs.Allocator.{HasLayout, owned_block}
use Rattle.core.proofs.alloc.Calls.{Al, seen, Goes-blank, Gives, at_gives, Gives-goes, Gives-Gives}
use Rattle.core.proofs.alloc.Shapes.{after}
use Rattle.std.proofs.raw_atomic.Walks.{proved_at, leaves}
use Rattle.std.proofs.raw_atomic.Calls.{fm}
use Rattle.seize_words.proofs.OneMemory.Stored.{hand_of, hand_good, room_told}
use Rattle.seize_words.specs.OneMemory.Room.{piece_of}
use Rattle.seize_words.specs.contracts.room.Room as room
use Rattle.seize_words.specs.contracts.room.Room.free.{ended, clauses}
use Rattle.seize_words.specs.contracts.room.Room.free.Key.{name as #self}
use Rattle.seize_words.proofs.room.Room.free.Statement.{statement}
use Rattle.seize_words.proofs.room.Room.free.Code as code

pub free_spec : {M : Type 1} → statement M
free_spec 𝓤 𝓛 𝓜 𝓡 wired X Y A LX LY LA g d dd met md =
    let H = 𝓛.H in let 𝓣 = tables 𝓤 H 𝓜 𝓡 𝓡.env in let En = ended X Y A g d dd in let c = clauses X Y A g d dd 𝓛 𝓜.mem 𝓡.returns in
    let inst : Args = bounded (a_type ∷ a_type ∷ a_type ∷ []) (X, (Y, (A, tt))) (dcons d (dcons dd dnil)) in let fn : Fn = inst_fn inst code.function in
    let R : RattleType = param 0 X in let W : RattleType = param 1 Y in let Z : RattleType = param 2 A in
    let Q : Al = record { row = A; laws = LA; g = g; d = d; drops = dd } in
    let Rm : RattleType = room.the_row R W Z g in
    let handle = RefOf (0 ∷ []) tt (plain (λ _. Z)) (λ _. tt) in let num = plain (λ _. usize) in
    let hs : Stays En.signature.params En.kept = (
      stay_dropped (plain (λ _. Rm)) no,
      (
        stay_dropped handle yes,
        (
          stay_dropped num yes,
          (stay_dropped num yes, tt),
        ),
      ),
    ) in
    let dropped = Goes-dropped 𝓛 4 num yes (λ κs x f. refl) in
    proved_at 𝓛 En hs c 𝓜 𝓡 (Goes-blank 𝓛 4 (plain (λ _. Rm)) no (λ κs x f. tt), (Goes-dropped 𝓛 4 handle yes (λ κs x f. refl), (dropped, (dropped, tt))))
    (#self inst) fn (code.unfolded 𝓤 H 𝓜 𝓡 wired (X, (Y, (A, tt))) d dd) (λ z are.
    let κs = z.0.0 in let qs = z.0.1 in let a = z.0.3 in let vss = z.0.4 in let Post : Val → SProp 𝓤 = (walk_of 𝓛 En hs c).post z in
    let κ : Lft = κs.0 in let q : Share = qs.0 in let h : Rm.Denot = a.0 in let heap : A.Denot = a.1.0.now in let at = a.1.0.ref_ptr in let s = a.1.1.0 in
    let al = a.1.1.1.0 in
    let τ : Ty = piece_of R W h.count in let others : Fml = fsep (flft κs.1.0 qs.1.0) (fsep (flft κs.1.1.0 qs.1.1.0) (fsep
    (flft κs.1.1.1.0 qs.1.1.1.0) ftrue)) in
    let Asked : Type 0 = (h.alloc ≡ heap) × HasLayout τ s al in let told = room_told R W Z g h.at vss.0 are.0.0 in
    let fits_s = are.1.1.0.1 in let fits_al = are.1.1.1.0.1 in
    qed 𝓛 (((‵ (flft κ q) ⊛ ‵ others) ⊛ ‵ (owns (types_at En.signature.params κs) a vss)) ∷ raw (fact 𝓤 _) ∷ raw (fact 𝓤 _) ∷ raw (fact 𝓤
    (κs.1.1.1.0 ⊑ A.lives)) ∷ raw (fact 𝓤 Asked) ∷ []) ∵
    keep ! (3 ∷ 4 ∷ 0 ∷ []) $ heard ! (κs.1.1.1.0 ⊑ A.lives) (λ le. heard ! Asked (λ asked. split ! $ split ! $ move ! (2 ∷ []) $ fsplit ! $ fsplit ! $ drop ! $
    -- [the piece; the other parameters; the token; the others]
    rewrite ! 0 (λ (u : A.Denot). ‵ (owned_block (g.dealloc_token u) τ h.at)) asked.0 refl $
    in_a_block ! h.at (λ r. owned_block (g.dealloc_token heap) τ r) (fst∗ 𝓤 (never 𝓤) (sem 𝓛 (g.dealloc_token heap τ null_ptr))) (λ b o placed.
    move ! (1 ∷ []) $ fsplit ! $ fsplit ! $ keep ! (3 ∷ 1 ∷ 4 ∷ 5 ∷ []) $ fsplit ! $ move ! (2 ∷ []) $ use1 𝓛 (‵ (seen Q κ at heap)) (id⊢ 𝓤 _) $
    move ! (0 ∷ 3 ∷ []) $ join ! $ move ! (1 ∷ 2 ∷ 0 ∷ []) $
    -- [the room; the right to free it; the handle and the token; the others]
    let p : Ptr = block_ptr b o in let y = at_gives Q 𝓛 𝓜.mem 𝓡.returns κ q at heap b o s al τ in
    regoal ! (λ (us : List Val). prop (WpFn 𝓤 H 𝓣.C 𝓣.Λ fn us Post)) (λ i. (told ∙ ap (λ (r : Ptr). hand_of r ∷ []) placed) i ++ (are.1.0.0 i ++
    (are.1.1.0.0 i ++ (are.1.1.1.0.0 i ++ [])))) refl $
    enter ! 𝓣.C 𝓣.Λ fn (hand_of p ∷ vptr at.0 at.1 ∷ vint w64 s ∷ vint w64 al ∷ []) Post $
    alloc_all ! (λ l. pass_all ! refl (hand_good p, ((tt, tt), ((tt, record { fits = fits_s }), ((tt, record { fits = fits_al }), tt)))) $
    let Ev : Env 𝓤 H = env fn.locals l in
    sets ! (of_opd ! (get_in ! (fld ! refl (stop !)) (sub ! 0 refl (whole !)))) refl (tt, tt) $ first ! $ blocks ! $
    use3 𝓛 (raw ((Gives Q 𝓛 𝓜.mem 𝓡.returns).pre y)) (Gives-goes Q 𝓛 𝓜.mem 𝓡.returns κ q at heap
    (⊑_trans κ κs.1.1.1.0 A.lives z.0.2.0 le) b o s al τ asked.1.0 asked.1.1 fits_s fits_al) $
    calls_at_last ! (fm 𝓛 𝓜 𝓡) (Gives Q 𝓛 𝓜.mem 𝓡.returns) (met.deallocate dd) y (and_then ! (get ! refl) (and_then ! (get ! refl) (and_then !
    (get ! refl) (and_then ! (get ! refl) (no_more !))))) (λ v.
    use1 𝓛 (later (given (v ≡ vunit) (‵ (flft κ q)))) (Gives-Gives Q 𝓛 𝓜.mem 𝓡.returns κ q at heap b o s al τ v) $ await ! tt $ learn ! (λ e.
    lands_last ! refl (subst (λ (u : Val). T (has_ty ty_unit u) × WT u) (sym e) (tt, tt)) $ exec ! 𝓣.C 𝓣.Λ Ev (after 2 fn.body) (at_ret Ev Post) $
    sets ! (of_opd ! (unit_lit !)) refl (tt, tt) $ returns ! (look_at ! 0 refl) $ free_all ! refl $
    join ! $ feq_i ! (List Val) (vunit ∷ []) (vunit ∷ []) refl $ nothing ! $ nothing ! $ nothing ! $ fjoin ! $ nothing ! $ fjoin ! $ nothing ! $ fjoin ! $
    nothing ! $ fjoin ! $
    move ! (3 ∷ 0 ∷ 2 ∷ 1 ∷ []) $ by ! (leaves 𝓛 En hs c z vunit tt (tt, (tt, (tt, (tt, tt)))) (tt, (tt, (tt, (tt, tt))))))))))))
