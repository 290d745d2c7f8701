-- A piece is cut into its places: two calls.
use Rattle.std.proofs.Common.{◌≡◌, ℕ, ◌+◌, ◌*◌, ◌<◌, ◌^◌, Bool, false, List, [], ◌∷◌, ◌++◌, refl, sym, ap, ◌∙◌, subst, arith, lit<, w64}
use Rattle.std.specs.Prelude.{replicate}
use Rattle.std.proofs.lemmas.List.{length-replicate}
use mir.Syntax.{Ty, Fn, Args, a_type, dcons, dnil, ty_array, tcons, tnil, given as dict_at}
use mir.Val.{Val, vint, vptr}
use mir.MapTy.{inst_fn}
use mir.Raw.{raw as bare}
use base.Logic.{SProp, emp, never, fst∗}
use base.Fml.{Lft, Share, Fml, ftrue, fsep, flft, froom, fwand}
use prog.Memory.{size, align}
use prog.RawLaws.{size-raw}
use prog.Wp.{Env, WpFn}
use contract.BorrowLft.{◌⊑◌}
use contract.Monad.{fact, fact_i}
use contract.Running.{tables}
use types.Logic.{sem}
use types.Kit.{‵, raw, ◌⊛◌, some, given, later, prop, at_ret, ◌$◌, ◌∵◌, !, qed, by, move, keep, drop, use0, use1, use2, use3, split, join, pick, learn, rewrite, regoal, fsplit, fsplit3, fjoin, fpack, await}
use types.Part.{whole, sub, agg}
use types.Run.{stop, fld, lit, bin, of_opd, no_more, and_then, first, blocks, exec, returns, enter}
use types.ByLocal.{alloc_all, pass_all, free_all, look_at, get, get_in, is, sets, sets_last, lands_as, env}
use denote.Exit.{yes, no}
use denote.Builtin.{RefOf, usize}
use denote.Memory.{lone}
use denote.RattleType.{RattleType, owns}
use denote.RawPtr.{Ptr, block_ptr, null_ptr, in_a_block, ◌+ₚ◌}
use denote.Param.{param, bounded}
use denote.Signature.{types_at, plain}
use denote.Steps.{nothing, heard}
use denote.Struct.CellSteps.{first_at}
use denote.Struct.Tuple.{Tuple}
use denote.Triple.Call.{calls_at}
use denote.Triple.Walked.{Stays, stay_dropped, walk_of, Goes-dropped}
use Rattle.core.specs.Allocator.{owned_block}
use Rattle.core.specs.contracts.slots.Slots as row-of
use Rattle.core.specs.Mem.Slots.{slots_items, slots_filled, slots_ptr, slots_len}
use Rattle.core.proofs.alloc.Calls.{Goes-blank}
use Rattle.core.proofs.alloc.Shapes.{after}
use Rattle.core.proofs.slots.Opens.{row_val}
use Rattle.core.proofs.slots.Runs.{of_space}
use Rattle.std_alloc.proofs.VecSteps.El.{El}
use Rattle.std_alloc.proofs.vec.Blocks.{el, all}
use Rattle.std_alloc.proofs.vec.Spares.{Row, From, at_from, Made, from_goes, from_gives}
use Rattle.std.proofs.raw_atomic.Walks.{proved_at, leaves}
use Rattle.std.proofs.raw_atomic.Calls.{fm}
use Rattle.core.proofs.slots.Slots.from_raw_parts.Met as callee
use Rattle.seize_words.proofs.OneMemory.Stored.{hand_of, hand_good, token, room_told, FrameData, frame_made, three_val, three_of}
use Rattle.seize_words.specs.OneMemory.Room.{ShortPiece, piece_of, places, words_from}
use Rattle.seize_words.specs.contracts.room.Room as room
use Rattle.seize_words.specs.contracts.room.Frame as frame
use Rattle.seize_words.specs.contracts.room.Room.cut.{ended, clauses}
use Rattle.seize_words.specs.contracts.room.Room.cut.Key.{name as #self}
use Rattle.seize_words.proofs.room.Room.cut.Statement.{statement}
use Rattle.seize_words.proofs.room.Room.cut.Code as code

pub cut_spec : {M : Type 1} → statement M
cut_spec 𝓤 𝓛 𝓜 𝓡 wired X Y A LX LY LA g d dd met md =
    let H = 𝓛.H in let 𝓣 = tables 𝓤 H 𝓜 𝓡 𝓡.env in let En = ended X Y A g d dd in let c = clauses X Y A g d dd 𝓛 𝓜.mem 𝓡.returns in
    let inst : Args = bounded (a_type ∷ a_type ∷ a_type ∷ []) (X, (Y, (A, tt))) (dcons d (dcons dd dnil)) in let fn : Fn = inst_fn inst code.function in
    let R : RattleType = param 0 X in let W : RattleType = param 1 Y in let Z : RattleType = param 2 A in
    let E : El = record { row = X; laws = LX; al = record { row = X; laws = LX; g = record { dealloc_token = λ _ _ _. ftrue }; d = dict_at 0; drops = dict_at 0 } } in
    let F : El = record { row = Y; laws = LY; al = record { row = Y; laws = LY; g = record { dealloc_token = λ _ _ _. ftrue }; d = dict_at 0; drops = dict_at 0 } } in
    let Rm : RattleType = room.the_row R W Z g in let Fr : RattleType = frame.the_row R W Z g in let RW : RattleType = row-of.the_row W in
    let Three : RattleType = Tuple (Row E ∷ RW ∷ Fr ∷ []) in
    let num = plain (λ _. usize) in let likeT = RefOf (0 ∷ []) tt (plain (λ _. R)) (λ _. tt) in let likeW = RefOf (1 ∷ []) tt (plain (λ _. W)) (λ _. tt) in
    let hs : Stays En.signature.params En.kept = (
      stay_dropped (plain (λ _. Rm)) no,
      (
        stay_dropped num yes,
        (
          stay_dropped num yes,
          (
            stay_dropped likeT yes,
            (stay_dropped likeW yes, tt),
          ),
        ),
      ),
    ) in
    let dropped = Goes-dropped 𝓛 5 num yes (λ κs x f. refl) in
    proved_at 𝓛 En hs c 𝓜 𝓡 (
      Goes-blank 𝓛 5 (plain (λ _. Rm)) no (λ κs x f. tt),
      (
        dropped,
        (
          dropped,
          (
            Goes-dropped 𝓛 5 likeT yes (λ κs x f. refl),
            (Goes-dropped 𝓛 5 likeW yes (λ κs x f. refl), tt),
          ),
        ),
      ),
    )
    (#self inst) fn (code.unfolded 𝓤 H 𝓜 𝓡 wired (X, (Y, (A, tt))) d dd) (λ z are.
    let κs = z.0.0 in let qs = z.0.1 in let a = z.0.3 in let vss = z.0.4 in let Post : Val → SProp 𝓤 = (walk_of 𝓛 En hs c).post z in
    let κT : Lft = κs.1.1.0 in let qT : Share = qs.1.1.0 in let κW : Lft = κs.1.1.1.0 in let qW : Share = qs.1.1.1.0 in
    let h : Rm.Denot = a.0 in let n : ℕ = a.1.0 in let from : ℕ = a.1.1.0 in let x : X.Denot = a.1.1.1.0.now in let nought : Y.Denot = a.1.1.1.1.0.now in
    let like = a.1.1.1.0.ref_ptr in let zero' = a.1.1.1.1.0.ref_ptr in let fits_n = are.1.0.1 in let fits_f = are.1.1.0.1 in
    let τ : Ty = piece_of R W n in let free : Ty → Ptr → Fml = g.dealloc_token h.alloc in let rest : Fml = fsep (flft κs.1.1.1.1.0 qs.1.1.1.1.0) ftrue in
    let ws : List Y.Denot = replicate n nought in let fs : List Bool = replicate n false in
    let Asked : Type 0 = (h.count ≡ n) × (from ≡ words_from R W) × ShortPiece R W n in let told = room_told R W Z g h.at vss.0 are.0.0 in
    qed 𝓛 (((‵ (flft κs.0 qs.0) ⊛ ‵ (flft κs.1.0 qs.1.0) ⊛ ‵ (flft κT qT) ⊛ ‵ (flft κW qW) ⊛ ‵ rest) ⊛ ‵ (owns (types_at En.signature.params κs) a vss))
    ∷ raw (fact 𝓤 (κT ⊑ X.lives)) ∷ raw (fact 𝓤 (κW ⊑ Y.lives)) ∷ raw (fact 𝓤 _) ∷ raw (fact 𝓤 Asked) ∷ []) ∵
    keep ! (1 ∷ 2 ∷ 4 ∷ 0 ∷ []) $ heard ! (κT ⊑ X.lives) (λ leT. heard ! (κW ⊑ Y.lives) (λ leW. heard ! Asked (λ asked. split ! $ move ! (1 ∷ []) $
    fsplit ! $ fsplit ! $ drop ! $
    rewrite ! 0 (λ (k : ℕ). ‵ (owned_block free (piece_of R W k) h.at)) asked.0 refl $
    in_a_block ! h.at (λ r. owned_block free τ r) (fst∗ 𝓤 (never 𝓤) (sem 𝓛 (free τ null_ptr))) (λ b o placed. keep ! (0 ∷ 2 ∷ []) $ fsplit ! $
    -- [the room; the right to free it; the tokens]
    move ! (2 ∷ []) $ split ! $ move ! (1 ∷ []) $ split ! $ move ! (1 ∷ []) $ split ! $ move ! (1 ∷ []) $ split ! $
    -- [W's; the last; T's; the second; the first; the room; the right]
    let p : Ptr = block_ptr b o in let far : ℕ = o + words_from R W in
    regoal ! (λ (us : List Val). prop (WpFn 𝓤 H 𝓣.C 𝓣.Λ fn us Post)) (λ i. (told ∙ ap (λ (r : Ptr). hand_of r ∷ []) placed) i ++ (are.1.0.0 i ++
    (are.1.1.0.0 i ++ (are.1.1.1.0.0 i ++ (are.1.1.1.1.0.0 i ++ []))))) refl $
    enter ! 𝓣.C 𝓣.Λ fn (hand_of p ∷ vint w64 n ∷ vint w64 from ∷ vptr like.0 like.1 ∷ vptr zero'.0 zero'.1 ∷ []) Post $
    alloc_all ! (λ l. pass_all ! refl (hand_good p, ((tt, record { fits = fits_n }), ((tt, record { fits = fits_f }), ((tt, tt), ((tt, tt), tt))))) $
    let Ev : Env 𝓤 H = env fn.locals l in
    sets ! (of_opd ! (get_in ! (fld ! refl (stop !)) (sub ! 0 refl (whole !)))) refl (tt, tt) $ first ! $ blocks ! $
    sets ! (of_opd ! (get ! refl)) refl (tt, tt) $ move ! (5 ∷ []) $
    use1 𝓛 (‵ (places R W n b o) ⊛ ‵ (fwand (places R W n b o) (froom τ b o))) (𝓛.laws.room_fields [] (tcons (bare (lone R.mir)) (tcons (bare (ty_array
    (lone W.mir) n)) tnil)) b o) $ split ! $ fsplit3 ! $
    rewrite ! 0 (λ (k : ℕ). ‵ (froom (bare (lone R.mir)) b k)) (first_at (align (bare (lone R.mir))) o) refl $ move ! (0 ∷ 2 ∷ []) $ fjoin ! $
    move ! (0 ∷ 5 ∷ []) $
    -- [the value's place; T's; the words' room; the way back; W's; the last; the second; the first; the right]
    let y₁ = at_from E 𝓛 𝓜.mem 𝓡.returns κT qT b o 1 (x ∷ []) (false ∷ []) in
    use2 𝓛 (raw ((From E 𝓛 𝓜.mem 𝓡.returns).pre y₁)) (from_goes E 𝓛 𝓜.mem 𝓡.returns κT qT b o 1 (x ∷ []) (false ∷ []) leT refl refl (lit< tt) (omega
    (arith, asked.2.value_fits, size-raw (lone R.mir)))) $
    calls_at ! (fm 𝓛 𝓜 𝓡) (From E 𝓛 𝓜.mem 𝓡.returns) (callee.met 𝓤 𝓛 𝓜 𝓡 (code.calls-core::slots::Slots::from_raw_parts 𝓡.env wired) X LX) y₁ (and_then !
    (get ! refl) (and_then ! (lit ! tt) (no_more !))) (λ v₁.
    use1 𝓛 (later (some (λ (r : (Row E).Denot). given ((v₁ ≡ row_val b o 1) × Made E 𝓛 𝓜.mem 𝓡.returns κT qT b o 1 (x ∷ []) (false ∷ []) r) (‵
    ((Row E).own_val r (row_val b o 1 ∷ [])) ⊛ ‵ (flft κT qT)))))
    (from_gives E 𝓛 𝓜.mem 𝓡.returns κT qT b o 1 (x ∷ []) (false ∷ []) v₁) $ await ! tt $ pick ! (λ r₁. learn ! (λ made₁. split ! $
    lands_as ! made₁.0 refl (tt, (tt, (record { fits = lit< tt }, tt))) $
    sets ! (is ! (bin ! (get ! refl) (get ! refl) tt) (ap (vptr b) (let e : from + o ≡ far = omega (arith, asked.1) in e))) refl (tt, tt) $
    sets ! (of_opd ! (get ! refl)) refl (tt, tt) $ move ! (2 ∷ []) $
    use1 𝓛 (‵ (froom (ty_array (lone W.mir) n) b far)) (𝓛.laws.raw-room (ty_array (lone W.mir) n) b far) $
    use1 𝓛 (‵ (all F b far ws fs)) (of_space (el F) 𝓛 b far n ws (length-replicate n nought)) $ move ! (0 ∷ 4 ∷ []) $
    -- [the words' places; W's; the value's slots; T's; the way back; the last; the second; the first; the right]
    let y₂ = at_from F 𝓛 𝓜.mem 𝓡.returns κW qW b far n ws fs in
    use2 𝓛 (raw ((From F 𝓛 𝓜.mem 𝓡.returns).pre y₂)) (from_goes F 𝓛 𝓜.mem 𝓡.returns κW qW b far n ws fs leW (sym (length-replicate n nought)) (sym
    (length-replicate n false)) fits_n (let w : size (lone W.mir) * n < 2 ^ 63 = subst (λ (k : ℕ). k * n < 2 ^ 63) (size-raw
    (lone W.mir)) asked.2.words_fit in omega (arith, w))) $
    calls_at ! (fm 𝓛 𝓜 𝓡) (From F 𝓛 𝓜.mem 𝓡.returns) (callee.met 𝓤 𝓛 𝓜 𝓡 (code.calls-core::slots::Slots::from_raw_parts 𝓡.env wired) Y LY) y₂ (and_then !
    (get ! refl) (and_then ! (get ! refl) (no_more !))) (λ v₂.
    use1 𝓛 (later (some (λ (r : (Row F).Denot). given ((v₂ ≡ row_val b far n) × Made F 𝓛 𝓜.mem 𝓡.returns κW qW b far n ws fs r) (‵ ((Row F).own_val r
    (row_val b far n ∷ [])) ⊛ ‵ (flft κW qW)))))
    (from_gives F 𝓛 𝓜.mem 𝓡.returns κW qW b far n ws fs v₂) $ await ! tt $ pick ! (λ r₂. learn ! (λ made₂. split ! $
    lands_as ! made₂.0 refl (tt, (tt, (record { fits = fits_n }, tt))) $
    sets ! (of_opd ! (get ! refl)) refl (tt, (tt, (record { fits = lit< tt }, tt))) $ sets ! (of_opd ! (get ! refl)) refl (
      tt,
      (
        tt,
        (record { fits = fits_n }, tt),
      ),
    ) $
    sets ! (agg ! (no_more !)) refl (tt, tt) $ sets ! (agg ! (and_then ! (get ! refl) (no_more !))) refl (tt, (tt, tt)) $
    sets_last ! (agg ! (and_then ! (get ! refl) (and_then ! (get ! refl) (and_then ! (get ! refl) (no_more !))))) refl (
      tt,
      (
        (
          tt,
          (record { fits = lit< tt }, tt),
        ),
        ((tt, (record { fits = fits_n }, tt)), ((tt, tt), tt)),
      ),
    ) $
    exec ! 𝓣.C 𝓣.Λ Ev (after 2 fn.body) (at_ret Ev Post) $
    sets ! (of_opd ! (get ! refl)) refl (tt, ((tt, (record { fits = lit< tt }, tt)), ((tt, (record { fits = fits_n }, tt)), ((tt, tt), tt)))) $
    returns ! (look_at ! 0 refl) $ free_all ! refl $
    -- [the words; W's; the value; T's; the way back; the last; the second; the first; the right]
    let f : Fr.Denot = record { marker = record {}; at = p; next = block_ptr b far; count = n; alloc = h.alloc } in
    move ! (4 ∷ 8 ∷ []) $ fjoin ! $ nothing ! $ fpack ! (ShortPiece R W n × (block_ptr b far ≡ p +ₚ words_from R W)) (λ _. ftrue) (asked.2, refl) $
    fjoin ! $ use0 𝓛 (‵ ((FrameData R W Z g).own_val (tt, tt) (token ∷ []))) (frame_made R W Z g 𝓛) $ fjoin ! $ move ! (3 ∷ 1 ∷ 0 ∷ []) $
    use3 𝓛 (‵ (Three.own_val (r₁, r₂, f) (three_val (row_val b o 1) (row_val b far n) token ∷ []))) (three_of 𝓛 (Row E) RW Fr r₁ r₂ f (row_val b o 1)
    (row_val b far n) token) $
    -- [all three; W's; T's; the last; the second; the first]
    move ! (1 ∷ 3 ∷ []) $ join ! $ move ! (2 ∷ 0 ∷ []) $ join ! $ move ! (2 ∷ 0 ∷ []) $ join ! $ move ! (2 ∷ 0 ∷ []) $ join ! $
    let Told : Type 0 = (slots_len r₁ ≡ 1) × (slots_items r₁ ≡ x ∷ []) × (slots_filled r₁ ≡ false ∷ []) × (slots_len r₂ ≡ n) × (slots_items r₂ ≡ ws) ×
    (slots_filled r₂ ≡ fs) × (n ≡ n) × (h.alloc ≡ h.alloc)
    × (slots_ptr r₁ ≡ p) × (slots_ptr r₂ ≡ block_ptr b far) in let m₁ = made₁.1 in let m₂ = made₂.1 in
    use0 𝓛 (raw (fact 𝓤 Told)) (fact_i 𝓤 Told (emp 𝓤) (m₁.1, m₁.2, m₁.3, m₂.1, m₂.2, m₂.3, refl, refl, m₁.0, m₂.0)) $
    nothing ! $ nothing ! $ fjoin ! $ nothing ! $ fjoin ! $ nothing ! $ fjoin ! $ nothing ! $ fjoin ! $ nothing ! $ fjoin ! $
    move ! (2 ∷ 0 ∷ 3 ∷ 1 ∷ []) $ by ! (leaves 𝓛 En hs c z (three_val (row_val b o 1) (row_val b far n) token) (r₁, r₂, f) (
      tt,
      (
        tt,
        (
          tt,
          (
            tt,
            (
              tt,
              tt,
            ),
          ),
        ),
      ),
    ) (tt, (tt, (tt, (tt, (tt, tt))))))))))))))))))
