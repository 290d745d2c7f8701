-- A new piece: one call, and its two answers.
use Rattle.std.proofs.Common.{◌≡◌, List, [], ◌∷◌, ◌++◌, refl, lit<, w64, true, false, Some, None}
use mir.Syntax.{Ty, Fn, Args, a_type, dcons, dnil}
use mir.Val.{Val, vint, vptr, vcons, vnil}
use mir.MapTy.{inst_fn}
use base.Logic.{SProp, emp, id⊢}
use base.Fml.{Lft, Share, Fml, ftrue, fsep, flft}
use prog.Wp.{Env, WpFn, Wp, after_seq, at_return}
use contract.BorrowLft.{◌⊑◌, ⊑_trans}
use contract.Monad.{fact, fact_i}
use contract.Running.{tables}
use types.Kit.{‵, raw, ◌⊛◌, later, prop, at_ret, ◌$◌, ◌∵◌, !, qed, by, move, keep, use0, use1, use2, split, join, regoal, fsplit, fjoin, await, Post as After, any_q}
use types.Part.{whole, agg}
use types.Match.{live, vrt, in_variant}
use types.Run.{stop, fld, lit, of_opd, no_more, and_then, first, switches_on, exec, returns, enter}
use types.ByLocal.{alloc_all, pass_all, free_all, look_at, get, get_in, get_tag, sets, sets_last, lands_as, env}
use denote.Exit.{yes}
use denote.Builtin.{RefOf, usize}
use denote.RattleType.{RattleType, owns}
use denote.RawPtr.{Ptr, block_ptr}
use denote.Param.{param, bounded}
use denote.Signature.{types_at, plain}
use denote.Steps.{nothing, heard}
use denote.Triple.Call.{calls_at}
use denote.Triple.Walked.{Stays, stay_dropped, walk_of, Goes-dropped}
use Rattle.core.specs.Allocator.{HasLayout}
use Rattle.core.specs.contracts.option.Option.{the_row as OptionOf}
use Rattle.core.proofs.alloc.Calls.{Al, seen, Takes, at_takes, Answered, Takes-goes, Takes-gives, answers, Answer-typed}
use Rattle.core.proofs.alloc.Shapes.{after, head, arm_body}
use Rattle.core.proofs.option.Made.{Some-of, none_of}
use Rattle.std.proofs.raw_atomic.Walks.{proved_at, leaves}
use Rattle.std.proofs.raw_atomic.Calls.{fm}
use Rattle.seize_words.proofs.OneMemory.Stored.{hand_of, room_made, RoomData}
use Rattle.seize_words.specs.OneMemory.Room.{piece_of}
use Rattle.seize_words.specs.contracts.room.Room as room
use Rattle.seize_words.specs.contracts.room.Room.new.{ended, clauses}
use Rattle.seize_words.specs.contracts.room.Room.new.Key.{name as #self}
use Rattle.seize_words.proofs.room.Room.new.Statement.{statement}
use Rattle.seize_words.proofs.room.Room.new.Code as code

pub new_spec : {M : Type 1} → statement M
new_spec 𝓤 𝓛 𝓜 𝓡 wired X Y A LX LY LA g d dd met md =
    let H = 𝓛.H in let 𝓣 = tables 𝓤 H 𝓜 𝓡 𝓡.env in let En = ended X Y A g d dd in let c = clauses X Y A g d dd 𝓛 𝓜.mem 𝓡.returns in
    let inst : Args = bounded (a_type ∷ a_type ∷ a_type ∷ []) (X, (Y, (A, tt))) (dcons d (dcons dd dnil)) in let fn : Fn = inst_fn inst code.function in
    let R : RattleType = param 0 X in let W : RattleType = param 1 Y in let Z : RattleType = param 2 A in
    let Q : Al = record { row = A; laws = LA; g = g; d = d; drops = dd } in
    let handle = RefOf (0 ∷ []) tt (plain (λ _. Z)) (λ _. tt) in let num = plain (λ _. usize) in
    let hs : Stays En.signature.params En.kept = (stay_dropped handle yes, (stay_dropped num yes, (stay_dropped num yes, (stay_dropped num yes, tt)))) in
    let dropped = Goes-dropped 𝓛 4 num yes (λ κs x f. refl) in
    proved_at 𝓛 En hs c 𝓜 𝓡 (Goes-dropped 𝓛 4 handle yes (λ κs x f. refl), (dropped, (dropped, (dropped, tt)))) (#self inst) fn
    (code.unfolded 𝓤 H 𝓜 𝓡 wired (X, (Y, (A, tt))) d dd) (λ z are.
    let κs = z.0.0 in let qs = z.0.1 in let a = z.0.3 in let vss = z.0.4 in let Post : Val → SProp 𝓤 = (walk_of 𝓛 En hs c).post z in
    let κ : Lft = κs.0 in let q : Share = qs.0 in let heap : A.Denot = a.0.now in let at = a.0.ref_ptr in let n = a.1.0 in let s = a.1.1.0 in
    let al = a.1.1.1.0 in let τ : Ty = piece_of R W n in
    let others : Fml = fsep (flft κs.1.0 qs.1.0) (fsep (flft κs.1.1.0 qs.1.1.0) (fsep (flft κs.1.1.1.0 qs.1.1.1.0) ftrue)) in
    let Asked : Type 0 = HasLayout τ s al in let Out : RattleType = OptionOf (room.the_row R W Z g) in
    let fits_n = are.1.0.1 in let fits_s = are.1.1.0.1 in let fits_al = are.1.1.1.0.1 in
    qed 𝓛 (((‵ (flft κ q) ⊛ ‵ others) ⊛ ‵ (owns (types_at En.signature.params κs) a vss)) ∷ raw (fact 𝓤 _) ∷ raw (fact 𝓤 _) ∷ raw (fact 𝓤
    (κs.1.1.1.0 ⊑ A.lives)) ∷ raw (fact 𝓤 Asked) ∷ []) ∵
    keep ! (3 ∷ 4 ∷ 0 ∷ []) $ heard ! (κs.1.1.1.0 ⊑ A.lives) (λ le. heard ! Asked (λ asked. split ! $ split ! $ move ! (2 ∷ []) $ fsplit ! $ fsplit ! $
    keep ! (1 ∷ 3 ∷ 4 ∷ []) $
    -- [the handle; the token; the others]
    use1 𝓛 (‵ (seen Q κ at heap)) (id⊢ 𝓤 _) $
    regoal ! (λ (us : List Val). prop (WpFn 𝓤 H 𝓣.C 𝓣.Λ fn us Post)) (λ i. are.0.0 i ++ (are.1.0.0 i ++ (are.1.1.0.0 i ++ (are.1.1.1.0.0 i ++ [])))) refl $
    enter ! 𝓣.C 𝓣.Λ fn (vptr at.0 at.1 ∷ vint w64 n ∷ vint w64 s ∷ vint w64 al ∷ []) Post $
    alloc_all ! (λ l. pass_all ! refl (
      (tt, tt),
      (
        (tt, record { fits = fits_n }),
        (
          (tt, record { fits = fits_s }),
          (
            (tt, record { fits = fits_al }),
            tt,
          ),
        ),
      ),
    ) $ let Ev : Env 𝓤 H = env fn.locals l in
    let Then : After 𝓤 H = any_q (after_seq 𝓤 H (Wp 𝓤 H 𝓣.C 𝓣.Λ Ev (after 2 fn.body) (at_return 𝓤 H Ev Post)) (at_return 𝓤 H Ev Post)) in
    let y = at_takes Q 𝓛 𝓜.mem 𝓡.returns κ q at heap s al τ in
    use2 𝓛 (raw ((Takes Q 𝓛 𝓜.mem 𝓡.returns).pre y)) (Takes-goes Q 𝓛 𝓜.mem 𝓡.returns κ q at heap
    (⊑_trans κ κs.1.1.1.0 A.lives z.0.2.0 le) s al τ asked.0 asked.1 fits_s fits_al) $
    calls_at ! (fm 𝓛 𝓜 𝓡) (Takes Q 𝓛 𝓜.mem 𝓡.returns) (met.allocate dd) y (and_then ! (get ! refl) (and_then ! (get ! refl) (and_then ! (get ! refl)
    (no_more !)))) (λ v.
    use1 𝓛 (later (raw (Answered Q 𝓛 𝓜.mem 𝓡.returns heap τ v) ⊛ ‵ (flft κ q))) (Takes-gives Q 𝓛 𝓜.mem 𝓡.returns κ q at heap s al τ v) $ await ! tt $ split ! $
    answers Q ! 𝓜.mem 𝓡.returns heap τ v
    (λ b o e. lands_as ! e refl (Answer-typed true b o) $ first ! $ switches_on ! (get_tag ! (vrt ! refl (fld ! refl (stop !))) (whole !)) $
    exec ! 𝓣.C 𝓣.Λ Ev (arm_body 0 (head (after 1 fn.body))) Then $
    sets ! (of_opd ! (get_in ! (vrt ! refl (fld ! refl (stop !))) (in_variant ! 0 0 refl refl (whole !)))) refl (tt, tt) $
    sets ! (agg ! (no_more !)) refl (tt, tt) $
    sets ! (agg ! (and_then ! (get ! refl) (and_then ! (get ! refl) (no_more !)))) refl (tt, (tt, (tt, tt))) $
    sets_last ! (agg ! (and_then ! (lit ! tt) (and_then ! (get ! refl) (no_more !)))) refl (tt, (record { fits = lit< tt }, ((tt, (tt, tt)), tt))) $
    exec ! 𝓣.C 𝓣.Λ Ev (after 2 fn.body) (at_ret Ev Post) $
    sets ! (of_opd ! (get ! refl)) refl (tt, (record { fits = lit< tt }, ((tt, (tt, tt)), tt))) $ returns ! (look_at ! 0 refl) $ free_all ! refl $
    -- [the room; the right to free it; the token; the others]
    let p : Ptr = block_ptr b o in let made : (room.the_row R W Z g).Denot = record { at = p; marker = record {}; count = n; alloc = heap } in
    fjoin ! $ use0 𝓛 (‵ ((RoomData R W Z g).own_val (p, (tt, tt)) (hand_of p ∷ []))) (room_made R W Z g 𝓛 p) $ fjoin ! $
    use1 𝓛 (‵ (Out.own_val (Some made) (live 1 (vcons (hand_of p) vnil) ∷ []))) (Some-of 𝓛 (room.the_row R W Z g) made (hand_of p)) $
    move ! (1 ∷ 2 ∷ []) $ join ! $ let Told : Type 0 = (heap ≡ heap) × (n ≡ n) in
    use0 𝓛 (raw (fact 𝓤 Told)) (fact_i 𝓤 Told (emp 𝓤) (refl, refl)) $ nothing ! $ nothing ! $ fjoin ! $ nothing ! $ fjoin ! $ nothing ! $ fjoin ! $
    nothing ! $ fjoin ! $
    move ! (2 ∷ 0 ∷ 3 ∷ 1 ∷ []) $ by ! (leaves 𝓛 En hs c z (live 1 (vcons (hand_of p) vnil)) (Some made) (tt, (tt, (tt, (tt, tt)))) (tt, (tt, (tt, (tt, tt))))))
    (λ e. lands_as ! e refl (Answer-typed false 0 0) $ first ! $ switches_on ! (get_tag ! (vrt ! refl (fld ! refl (stop !))) (whole !)) $
    exec ! 𝓣.C 𝓣.Λ Ev (arm_body 1 (head (after 1 fn.body))) Then $
    sets_last ! (agg ! (and_then ! (lit ! tt) (no_more !))) refl (tt, (record { fits = lit< tt }, tt)) $ exec ! 𝓣.C 𝓣.Λ Ev (after 2 fn.body) (at_ret Ev Post) $
    sets ! (of_opd ! (get ! refl)) refl (tt, (record { fits = lit< tt }, tt)) $ returns ! (look_at ! 0 refl) $ free_all ! refl $
    join ! $ use0 𝓛 (‵ (Out.own_val None (live 0 vnil ∷ []))) (none_of 𝓛 (room.the_row R W Z g)) $
    use0 𝓛 (raw (fact 𝓤 (Unit {0}))) (fact_i 𝓤 (Unit {0}) (emp 𝓤) tt) $ nothing ! $ nothing ! $ fjoin ! $ nothing ! $ fjoin ! $ nothing ! $ fjoin ! $
    nothing ! $ fjoin ! $
    move ! (3 ∷ 0 ∷ 2 ∷ 1 ∷ []) $ by ! (leaves 𝓛 En hs c z (live 0 vnil) None (tt, (tt, (tt, (tt, tt)))) (tt, (tt, (tt, (tt, tt)))))))))))
