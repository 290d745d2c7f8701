-- Places are a piece again: two calls.
use Rattle.std.proofs.Common.{◌≡◌, ℕ, ◌+◌, false, List, [], ◌∷◌, ◌++◌, length, refl, sym, ◌∙◌}
use mir.Syntax.{Ty, Fn, Args, a_type, dcons, dnil, ty_array, given as dict_at}
use mir.Val.{Val}
use mir.MapTy.{inst_fn}
use mir.Raw.{raw as bare}
use base.Logic.{SProp, emp, never, id⊢, apply∗}
use base.Fml.{Lft, Share, Fml, ftrue, fsep, flft, froom}
use prog.Memory.{align}
use prog.Wp.{Env, WpFn}
use contract.BorrowLft.{◌⊑◌}
use contract.Monad.{fact, fact_i}
use contract.Running.{tables}
use types.Logic.{sem}
use types.Kit.{‵, raw, ◌⊛◌, given, later, prop, at_ret, ◌$◌, ◌∵◌, !, qed, by, move, keep, drop, use0, use1, use2, split, join, learn, rewrite, regoal, fsplit, fsplit3, fjoin, fjoin3, fpick, await}
use types.Part.{whole, sub, agg}
use types.Run.{stop, fld, of_opd, no_more, and_then, first, blocks, exec, returns, enter}
use types.ByLocal.{alloc_all, pass_all, free_all, look_at, get, get_in, is, sets, lands_last, env}
use denote.Exit.{no}
use denote.Memory.{lone}
use denote.RattleType.{RattleType, owns}
use denote.RawPtr.{Ptr, block_ptr, room_for, in_a_block}
use denote.Param.{param, bounded}
use denote.Signature.{types_at, plain}
use denote.Steps.{nothing, heard}
use denote.Struct.CellSteps.{first_at}
use denote.Triple.Call.{calls_at_last}
use denote.Triple.Walked.{Stays, stay_dropped, walk_of}
use Rattle.core.specs.Allocator.{owned_block}
use Rattle.core.specs.contracts.slots.Slots as row-of
use Rattle.core.specs.Mem.{type_size}
use Rattle.core.specs.Mem.Slots.{slots_items, slots_filled, slots_ptr, slots_len, slots_counts}
use Rattle.core.proofs.alloc.Calls.{Goes-blank}
use Rattle.core.proofs.alloc.Shapes.{after}
use Rattle.core.proofs.slots.Opens.{row_val}
use Rattle.core.proofs.slots.Places.{to_room}
use Rattle.std_alloc.proofs.VecSteps.El.{El}
use Rattle.std_alloc.proofs.vec.Blocks.{el, all}
use Rattle.std_alloc.proofs.vec.Spares.{Row, Into, at_into, Into-goes, Into-gives, Row-seen, parts_typed}
use Rattle.std.proofs.raw_atomic.Walks.{proved_at, leaves}
use Rattle.std.proofs.raw_atomic.Calls.{fm}
use Rattle.core.proofs.slots.Slots.into_raw_parts.Met as callee
use Rattle.seize_words.proofs.OneMemory.Stored.{hand_of, hand_good, token, frame_told, RoomData, room_made}
use Rattle.seize_words.specs.OneMemory.Room as Spec
use Rattle.seize_words.specs.OneMemory.Room.{ShortPiece, piece_of, places, words_from}
use Rattle.seize_words.specs.contracts.room.Room as room
use Rattle.seize_words.specs.contracts.room.Frame as frame
use Rattle.seize_words.specs.contracts.room.Frame.join.{ended, clauses}
use Rattle.seize_words.specs.contracts.room.Frame.join.Key.{name as #self}
use Rattle.seize_words.proofs.room.Frame.join.Statement.{statement}
use Rattle.seize_words.proofs.room.Frame.join.Code as code

pub join_spec : {M : Type 1} → statement M
join_spec 𝓤 𝓛 𝓜 𝓡 wired X Y A LX LY LA g d dd met md =
    let H = 𝓛.H in let 𝓣 = tables 𝓤 H 𝓜 𝓡 𝓡.env in let En = ended X Y A g d dd in let c = clauses X Y A g d dd 𝓛 𝓜.mem 𝓡.returns in
    let inst : Args = bounded (a_type ∷ a_type ∷ a_type ∷ []) (X, (Y, (A, tt))) (dcons d (dcons dd dnil)) in let fn : Fn = inst_fn inst code.function in
    let R : RattleType = param 0 X in let W : RattleType = param 1 Y in let Z : RattleType = param 2 A in
    let E : El = record { row = X; laws = LX; al = record { row = X; laws = LX; g = record { dealloc_token = λ _ _ _. ftrue }; d = dict_at 0; drops = dict_at 0 } } in
    let F : El = record { row = Y; laws = LY; al = record { row = Y; laws = LY; g = record { dealloc_token = λ _ _ _. ftrue }; d = dict_at 0; drops = dict_at 0 } } in
    let Rm : RattleType = room.the_row R W Z g in let Fr : RattleType = frame.the_row R W Z g in let RW : RattleType = row-of.the_row W in
    let hs : Stays En.signature.params En.kept = (
      stay_dropped (plain (λ _. Fr)) no,
      (
        stay_dropped (plain (λ _. Row E)) no,
        (
          stay_dropped (plain
              (λ _. RW)) no,
          tt,
        ),
      ),
    ) in
    proved_at 𝓛 En hs c 𝓜 𝓡 (
      Goes-blank 𝓛 3 (plain (λ _. Fr)) no (λ κs x f. tt),
      (
        Goes-blank 𝓛 3 (plain (λ _. Row E)) no (λ κs x f. tt),
        (
          Goes-blank 𝓛 3
              (plain (λ _. RW)) no (λ κs x f. tt),
          tt,
        ),
      ),
    )
    (#self inst) fn (code.unfolded 𝓤 H 𝓜 𝓡 wired (X, (Y, (A, tt))) d dd) (λ z are.
    let κs = z.0.0 in let qs = z.0.1 in let a = z.0.3 in let vss = z.0.4 in let Post : Val → SProp 𝓤 = (walk_of 𝓛 En hs c).post z in
    let κT : Lft = κs.0 in let qT : Share = qs.0 in let κW : Lft = κs.1.0 in let qW : Share = qs.1.0 in let rest : Fml = fsep (flft κs.1.1.0 qs.1.1.0) ftrue in
    let f : Fr.Denot = a.0 in let r₁ : (Row E).Denot = a.1.0 in let r₂ : (Row F).Denot = a.1.1.0 in let n : ℕ = f.count in let τ : Ty = piece_of R W n in
    let free : Ty → Ptr → Fml = g.dealloc_token f.alloc in
    let n₁ : ℕ = slots_len r₁ in let n₂ : ℕ = slots_len r₂ in let σ : Ty = lone R.mir in let ω : Ty = lone W.mir in
    let Asked : Type 0 = (slots_ptr r₁ ≡ f.at) × (slots_ptr r₂ ≡ f.next) × (n₁ ≡ 1) × (n₂ ≡ n) × (slots_filled r₁ ≡ false ∷ []) in
    let told = frame_told R W Z g vss.0 are.0.0 in
    qed 𝓛 (((‵ (flft κT qT) ⊛ ‵ (flft κW qW) ⊛ ‵ rest) ⊛ ‵ (owns (types_at En.signature.params κs) a vss))
    ∷ raw (fact 𝓤 (κT ⊑ X.lives)) ∷ raw (fact 𝓤 (κW ⊑ Y.lives)) ∷ raw (fact 𝓤 _) ∷ raw (fact 𝓤 Asked) ∷ []) ∵
    keep ! (1 ∷ 2 ∷ 4 ∷ 0 ∷ []) $ heard ! (κT ⊑ X.lives) (λ leT. heard ! (κW ⊑ Y.lives) (λ leW. heard ! Asked (λ asked. split ! $ move ! (1 ∷ []) $
    fsplit3 ! $ fsplit ! $ drop ! $
    in_a_block ! f.at (λ r. Spec.frame R W free n r f.next) (id⊢ 𝓤 (never 𝓤)) (λ b o at. fsplit ! $ fpick ! (λ lies. drop ! $ fsplit ! $ move ! (2 ∷ []) $
    -- [the value; the way back; the right to free; the words; the tokens]
    Row-seen E ! r₁ vss.1.0 (λ b₁ o₁ at₁ told₁ fits₁. move ! (3 ∷ []) $ fsplit ! $ Row-seen F ! r₂ vss.1.1.0 (λ b₂ o₂ at₂ told₂ fits₂. keep ! (2 ∷ 0 ∷ 3
    ∷ 4 ∷ 5 ∷ []) $
    move ! (4 ∷ []) $ split ! $ move ! (1 ∷ []) $ split ! $
    -- [W's; the last; T's; the value; the words; the way back; the right]
    regoal ! (λ (us : List Val). prop (WpFn 𝓤 H 𝓣.C 𝓣.Λ fn us Post)) (λ i. told i ++ (told₁ i ++ (told₂ i ++ []))) refl $
    enter ! 𝓣.C 𝓣.Λ fn (token ∷ row_val b₁ o₁ n₁ ∷ row_val b₂ o₂ n₂ ∷ []) Post $
    alloc_all ! (λ l. pass_all ! refl ((tt, (tt, tt)), ((tt, (tt, (record { fits = fits₁ }, tt))), ((tt, (tt, (record { fits = fits₂ }, tt))), tt))) $
    let Ev : Env 𝓤 H = env fn.locals l in
    sets ! (of_opd ! (get_in ! (fld ! refl (stop !)) (sub ! 0 refl (whole !)))) refl (tt, tt) $ first ! $ blocks ! $
    sets ! (of_opd ! (get ! refl)) refl (tt, (tt, (record { fits = fits₁ }, tt))) $ move ! (3 ∷ 2 ∷ []) $ let y₁ = at_into E 𝓛 𝓜.mem 𝓡.returns κT qT r₁ b₁ o₁ in
    use2 𝓛 (raw ((Into E 𝓛 𝓜.mem 𝓡.returns).pre y₁)) (Into-goes E 𝓛 𝓜.mem 𝓡.returns κT qT r₁ b₁ o₁ leT) $
    calls_at_last ! (fm 𝓛 𝓜 𝓡) (Into E 𝓛 𝓜.mem 𝓡.returns) (callee.met 𝓤 𝓛 𝓜 𝓡 (code.calls-core::slots::Slots::into_raw_parts 𝓡.env wired) X LX) y₁
    (and_then ! (get ! refl) (no_more !)) (λ v₁.
    use1 𝓛 (later (given (v₁ ≡ row_val b₁ o₁ n₁) (‵ (all E b₁ o₁ (slots_items r₁) (slots_filled r₁)) ⊛ ‵ (flft κT qT))))
    (Into-gives E 𝓛 𝓜.mem 𝓡.returns κT qT r₁ b₁ o₁ v₁ at₁) $ await ! tt $ learn ! (λ is₁. split ! $
    lands_last ! refl (parts_typed v₁ b₁ o₁ n₁ is₁ fits₁) $ exec ! 𝓣.C 𝓣.Λ Ev (after 2 fn.body) (at_ret Ev Post) $
    sets ! (is ! (of_opd ! (get ! refl)) is₁) refl (tt, (tt, (record { fits = fits₁ }, tt))) $
    sets ! (of_opd ! (get_in ! (fld ! refl (stop !)) (sub ! 0 refl (whole !)))) refl (tt, tt) $ first ! $ blocks ! $
    sets ! (of_opd ! (get ! refl)) refl (tt, (tt, (record { fits = fits₂ }, tt))) $ move ! (4 ∷ 2 ∷ []) $ let y₂ = at_into F 𝓛 𝓜.mem 𝓡.returns κW qW r₂ b₂ o₂ in
    use2 𝓛 (raw ((Into F 𝓛 𝓜.mem 𝓡.returns).pre y₂)) (Into-goes F 𝓛 𝓜.mem 𝓡.returns κW qW r₂ b₂ o₂ leW) $
    calls_at_last ! (fm 𝓛 𝓜 𝓡) (Into F 𝓛 𝓜.mem 𝓡.returns) (callee.met 𝓤 𝓛 𝓜 𝓡 (code.calls-core::slots::Slots::into_raw_parts 𝓡.env wired) Y LY) y₂
    (and_then ! (get ! refl) (no_more !)) (λ v₂.
    use1 𝓛 (later (given (v₂ ≡ row_val b₂ o₂ n₂) (‵ (all F b₂ o₂ (slots_items r₂) (slots_filled r₂)) ⊛ ‵ (flft κW qW))))
    (Into-gives F 𝓛 𝓜.mem 𝓡.returns κW qW r₂ b₂ o₂ v₂ at₂) $ await ! tt $ learn ! (λ is₂. split ! $
    lands_last ! refl (parts_typed v₂ b₂ o₂ n₂ is₂ fits₂) $ exec ! 𝓣.C 𝓣.Λ Ev (after 5 fn.body) (at_ret Ev Post) $
    sets ! (is ! (of_opd ! (get ! refl)) is₂) refl (tt, (tt, (record { fits = fits₂ }, tt))) $ sets ! (of_opd ! (get ! refl)) refl (tt, tt) $
    sets ! (agg ! (and_then ! (get ! refl) (and_then ! (get ! refl) (no_more !)))) refl (hand_good (block_ptr b₁ o₁)) $ returns ! (look_at ! 0 refl) $
    free_all ! refl $
    -- [the words' places; W's; the value's place; T's; the last; the way back; the right]
    let p : Ptr = block_ptr b o in let far : ℕ = o + words_from R W in let here : block_ptr b₁ o₁ ≡ p = sym at₁ ∙ asked.0 ∙ at in
    let there : block_ptr b₂ o₂ ≡ block_ptr b far = sym at₂ ∙ asked.1 ∙ lies.1 in
    let long₁ : length (slots_items r₁) ≡ 1 = sym (slots_counts r₁).0 ∙ asked.2 in let long₂ : length (slots_items r₂) ≡ n = sym (slots_counts r₂).0
    ∙ asked.3 in
    use1 𝓛 (‵ (room_for (ty_array ω (length (slots_items r₂))) (block_ptr b₂ o₂))) (to_room (el F) 𝓛 b₂ (slots_items r₂) (slots_filled r₂) o₂ (sym
    (slots_counts r₂).1 ∙ (slots_counts r₂).0)) $
    rewrite ! 0 (λ (u : Ptr × ℕ). ‵ (room_for (ty_array ω u.1) u.0)) (λ i. (there i, long₂ i)) refl $
    use1 𝓛 (‵ (froom (bare (ty_array ω n)) b far)) (𝓛.laws.room-raw (ty_array ω n) b far) $ move ! (2 ∷ []) $
    use1 𝓛 (‵ (room_for (ty_array σ (length (slots_items r₁))) (block_ptr b₁ o₁))) (to_room (el E) 𝓛 b₁ (slots_items r₁) (slots_filled r₁) o₁ (sym
    (slots_counts r₁).1 ∙ (slots_counts r₁).0)) $
    rewrite ! 0 (λ (u : Ptr × ℕ). ‵ (room_for (ty_array σ u.1) u.0)) (λ i. (here i, long₁ i)) refl $
    use1 𝓛 (‵ (froom σ b o) ⊛ ‵ (froom (ty_array σ 0) b (o + type_size R))) (𝓛.laws.room_uncons σ 0 b o) $ split ! $ move ! (1 ∷ []) $ drop ! $
    use1 𝓛 (‵ (froom (bare σ) b o)) (𝓛.laws.room-raw σ b o) $
    rewrite ! 0 (λ (k : ℕ). ‵ (froom (bare σ) b k)) (sym (first_at (align (bare σ)) o)) refl $
    -- [the value's room; the words' room; W's; T's; the last; the way back; the right]
    nothing ! $ move ! (1 ∷ 2 ∷ 0 ∷ []) $ fjoin3 ! $ move ! (0 ∷ 4 ∷ []) $ use2 𝓛 (‵ (froom τ b o)) (apply∗ 𝓤 (sem 𝓛 (places R W n b o)) (H.room τ b o)) $
    move ! (0 ∷ 4 ∷ []) $ fjoin ! $
    rewrite ! 0 (λ (u : Ptr). ‵ (owned_block free τ u)) (sym here) refl $
    let q : Ptr = block_ptr b₁ o₁ in let made : Rm.Denot = record { at = q; marker = record {}; count = n; alloc = f.alloc } in
    use0 𝓛 (‵ ((RoomData R W Z g).own_val (q, (tt, tt)) (hand_of q ∷ []))) (room_made R W Z g 𝓛 q) $ fjoin ! $
    -- [the piece; W's; T's; the last]
    move ! (1 ∷ 3 ∷ []) $ join ! $ move ! (2 ∷ 0 ∷ []) $ join ! $ let Told : Type 0 = (n ≡ n) × (f.alloc ≡ f.alloc) × ShortPiece R W n in
    use0 𝓛 (raw (fact 𝓤 Told)) (fact_i 𝓤 Told (emp 𝓤) (refl, refl, lies.0)) $ nothing ! $ nothing ! $ fjoin ! $ nothing ! $ fjoin ! $ nothing ! $ fjoin ! $
    move ! (2 ∷ 0 ∷ 3 ∷ 1 ∷ []) $ by ! (leaves 𝓛 En hs c z (hand_of q) made (tt, (tt, (tt, tt))) (tt, (tt, (tt, tt)))))))))))))))))
