-- The memory goes into another lifetime: what was lent is back, all seats have ended, and a rule, the same or another one, holds of it with no seat, with one
-- that comes, or with the same seats. Assumes `Logic`.
use Rattle.std.specs.Prelude.{slice_get, slice_set, map}
use Rattle.std.proofs.Common.{◌≡◌, ℕ, zero, suc, Some, None, Option, ◌+◌, ◌*◌, List, [], ◌∷◌, ◌++◌, length, take, drop, refl, sym, arith}
use Rattle.std.proofs.lemmas.List.{append-nil, append_assoc, length-append}
use seplogic.Ra.Ura.{Ura}
use base.Logic.{SProp, ent, sep, ex, emp, guard, via, never, never_e, guard_i, ex_i}
use base.Share.{three_quarters}
use base.Fml.{Lft, Share, Fml, Incl, ftrue, flft, fdead, fbor}
use types.Logic.{Logic, sem}
use types.Owned.{basic}
use types.Tokens.{lft_new, lft_end, bor_new, lent_back}
use types.Kit.{‵, raw, ◌⊛◌, some as items, given, later, ◌$◌, ◌∵◌, !, qed, by, move, keep, drop as leave, split, split3, check, show, join, fsplit, fsplit3, fjoin, fjoin3, fpick, fpack, pick, learn, use0, use1, use2, use3, updating, await, now, rewrite, done}
use denote.RattleType.{RattleType}
use denote.RawPtr.{Ptr, block_of, count_of}
use denote.Shares.{Shares}
use denote.Steps.{nothing}
use Rattle.core.specs.contracts.option.Option.{the_row as OptionOf}
use Rattle.seize_seats.specs.Seats.Errands.{ViewCode, Away, AreAllBack}
use Rattle.seize_seats.specs.Seats.State.{State}
use Rattle.seize_seats.specs.Seats.Cells.{Body, Cell, Free, Claimed, Out, Has as Hold, Held}
use Rattle.seize_seats.specs.Seats.Seen.{seen}
use Rattle.seize_seats.specs.Seats.Lines.{AreLaid}
use Rattle.seize_seats.specs.Seats.Strips.{Strip}
use Rattle.seize_seats.specs.Seats.Owned.{Pieces, sitting, stride, under, numbers, strips, listed, BaseId, IsLike, age, core_of, book_of, Inside, state_of, IsPlaced, standing_in, everything, lent_here, had_here, words_own}
use Rattle.seize_seats.specs.Seats.Stretches.{IsEven, invariant}
use Rattle.seize_seats.proofs.Seats.Views.Sitters as Sitters
use Rattle.seize_seats.proofs.Seats.Views.Stretches as Stretches
use Rattle.seize_seats.proofs.Seats.Places.Pieces as Pieces
use Rattle.seize_seats.proofs.Seats.Opening as Opening

-- the state in which the memory was as it went: the rule held, nobody was on an errand, and this was known of the views
abbrev pub WasFound : {T V W : Type 0} → (V → Away) → (State T V W → Type 0) → (List V → Type 0) → State T V W → Type 0
WasFound away holds Knows s = holds s × AreAllBack away s.views × Knows s.views

module _ {M : Type 1} {𝓤 : Ura M} (𝓛 : Logic 𝓤) (R : RattleType) (own : Pieces R.Denot) {V W V' W' : Type 0} (cv : ViewCode V) (cv' : ViewCode V') (holds : State R.Denot V W → Type 0) (after : State R.Denot V W → State R.Denot V' W' → Type 0) (p : Ptr) (z : BaseId) where
  open 𝓛 use {H, A}

  abbrev Pr : Type 2
  Pr = SProp 𝓤

  abbrev ◌⊢◌ : Pr → Pr → Type 1
  P ⊢ Q = ent 𝓤 P Q

  abbrev ◌∗◌ : Pr → Pr → Pr
  P ∗ Q = sep 𝓤 P Q

  abbrev ⟦◌⟧ : Fml → Pr
  ⟦ P ⟧ = sem 𝓛 P

  infix 26 ◌⊢◌
  infixr 35 ◌∗◌
  abbrev α : Lft
  α = age z

  abbrev δ : ℕ
  δ = z.hands_name

  -- what stands for the body of a block before and after it
  abbrev Was : ℕ → Body R.Denot → ℕ → ℕ → Fml
  Was = lent_here R own cv holds p z

  abbrev Had : ℕ → ℕ → Body R.Denot → Fml
  Had = had_here R own cv holds p z

  abbrev Lent : State R.Denot V W → BaseId → ℕ → Body R.Denot → ℕ → ℕ → Fml
  Lent u y = lent_here R own cv' (after u) p y

  abbrev Has : State R.Denot V W → BaseId → ℕ → ℕ → Body R.Denot → Fml
  Has u y = had_here R own cv' (after u) p y

  -- values that are owned, and not lent
  abbrev Owned : ℕ → Body R.Denot → ℕ → ℕ → Fml
  Owned = Opening.owned 𝓛 R α δ Was Had own

  module _ (u : State R.Denot V W) (y : BaseId) (τ : Lft) (s : Share) (shares : Shares 𝓛 (OptionOf R) (OptionOf R).lives) (inc : Incl τ (OptionOf R).lives) where
    -- the old lifetime is over, and the type's own lasts
    abbrev Know : Pr
    Know = A.dead α ∗ A.lft τ s

    -- a value that is owned can be lent in the new lifetime
    lends_one : (b b' o o' i : ℕ) (c : Cell R.Denot) → ⟦ under R α δ Owned Had b o b' o' i c ⟧ ∗ Know
        ⊢ H.⇛ (⟦ under R (age y) δ (Lent u y) (Has u y) b o b' o' i c ⟧ ∗ Know)
    lends_one b b' o o' i Free = qed 𝓛 (‵ (under R α δ Owned Had b o b' o' i Free) ∷ raw Know ∷ []) ∵ updating ! $ now ! $ done !
    lends_one b b' o o' i Claimed = qed 𝓛 (‵ (under R α δ Owned Had b o b' o' i Claimed) ∷ raw Know ∷ []) ∵ updating ! $ now ! $ done !
    lends_one b b' o o' i (Out e) = let Z : Pr = H.⇛ (⟦ under R (age y) δ (Lent u y) (Has u y) b o b' o' i (Out e) ⟧ ∗ Know) in
        qed 𝓛 (‵ (under R α δ Owned Had b o b' o' i (Out e)) ∷ (‵ (fdead α) ⊛ ‵ (flft τ s)) ∷ []) ∵ fsplit3 ! $ move ! (3 ∷ []) $ split ! $
        move ! (4 ∷ 0 ∷ []) $ use2 𝓛 (raw (never 𝓤)) (𝓛.lfts.lft-dead α e) $ keep ! (0 ∷ []) $ by ! (never_e 𝓤 Z)
    lends_one b b' o o' i (Held ρ e x ws) = let Z : Pr = H.⇛ (⟦ under R (age y) δ (Lent u y) (Has u y) b o b' o' i (Held ρ e x ws) ⟧ ∗ Know) in
        qed 𝓛 (‵ (under R α δ Owned Had b o b' o' i (Held ρ e x ws)) ∷ (‵ (fdead α) ⊛ ‵ (flft τ s)) ∷ []) ∵ fsplit ! $ move ! (1 ∷ []) $ fsplit3 ! $
        move ! (2 ∷ []) $ fsplit ! $
        -- [the share; who has it; the hand; the entry; the sign; dead and the type's token]
        move ! (5 ∷ []) $ split ! $ move ! (2 ∷ 0 ∷ []) $ use2 𝓛 (raw (never 𝓤)) (𝓛.lfts.lft-dead α e) $ keep ! (0 ∷ []) $ by ! (never_e 𝓤 Z)
    lends_one b b' o o' i (Hold x ws) = qed 𝓛 (‵ (under R α δ Owned Had b o b' o' i (Hold x ws)) ∷ (‵ (fdead α) ⊛ ‵ (flft τ s)) ∷ []) ∵ updating ! $ fsplit ! $
        move ! (1 ∷ []) $ fsplit ! $ move ! (1 ∷ []) $ fsplit ! $ move ! (4 ∷ []) $ split ! $
        -- [dead; the type's token; the entry; the value; the hand; the sign]
        move ! (3 ∷ 1 ∷ []) $ use2 𝓛 (later (‵ (Lent u y i x b' o') ⊛ ‵ (flft τ s)))
        (Pieces.offers 𝓛 R own cv' (after u) p y shares i x b' o' τ s inc) $ await ! tt $ split ! $
        -- [the value; the type's token; dead; the entry; the hand; the sign]
        move ! (3 ∷ 0 ∷ []) $ fjoin ! $ move ! (3 ∷ 0 ∷ []) $ fjoin ! $ move ! (3 ∷ 0 ∷ []) $ fjoin ! $ now ! $ move ! (0 ∷ 2 ∷ 1 ∷ []) $ done !

    lends_all : (b b' : ℕ) (cs : List (Cell R.Denot)) (o o' i : ℕ) → ⟦ numbers R α δ Owned Had b o b' o' i cs ⟧ ∗ Know
        ⊢ H.⇛ (⟦ numbers R (age y) δ (Lent u y) (Has u y) b o b' o' i cs ⟧ ∗ Know)
    lends_all b b' [] o o' i = qed 𝓛 (‵ ftrue ∷ raw Know ∷ []) ∵ updating ! $ now ! $ done !
    lends_all b b' (c ∷ cs) o o' i =
        let New : Fml = numbers R (age y) δ (Lent u y) (Has u y) b (o + 40) b' (o' + stride R) (suc i) cs in
        qed 𝓛 ((‵ (under R α δ Owned Had b o b' o' i c) ⊛ ‵ (numbers R α δ Owned Had b (o + 40) b' (o' + stride R) (suc i) cs)) ∷ raw Know ∷ []) ∵
        updating ! $ split ! $ move ! (1 ∷ 2 ∷ []) $ use2 𝓛 (later (‵ New ⊛ raw Know)) (lends_all b b' cs (o + 40) (o' + stride R) (suc i)) $ await ! tt $ split ! $
        move ! (2 ∷ 1 ∷ []) $ use2 𝓛 (later (‵ (under R (age y) δ (Lent u y) (Has u y) b o b' o' i c) ⊛ raw Know)) (lends_one b b' o o' i c) $ await ! tt $ split ! $
        move ! (0 ∷ 2 ∷ []) $ fjoin ! $ now ! $ done !

    abbrev Of : Lft → (ℕ → Body R.Denot → ℕ → ℕ → Fml) → (ℕ → ℕ → Body R.Denot → Fml) → Strip → List (Cell R.Denot) → Fml
    Of β lent had s cs =
        numbers R β δ lent had (block_of s.words) (s.skip * 8 + count_of s.words) (block_of s.values) (count_of s.values) s.first cs

    lends_strips : (ss : List Strip) (cs : List (Cell R.Denot)) → ⟦ strips R α δ Owned Had ss cs ⟧ ∗ Know ⊢ H.⇛ (⟦ strips R (age y) δ (Lent u y) (Has u y) ss cs ⟧ ∗ Know)
    lends_strips [] cs = qed 𝓛 (‵ ftrue ∷ raw Know ∷ []) ∵ updating ! $ now ! $ done !
    lends_strips (s ∷ ss) cs = let ts : List (Cell R.Denot) = take s.size cs in let ds : List (Cell R.Denot) = drop s.size cs in
        let New : Fml = strips R (age y) δ (Lent u y) (Has u y) ss ds in let Here : Fml = Of (age y) (Lent u y) (Has u y) s ts in
        qed 𝓛 ((‵ (Of α Owned Had s ts) ⊛ ‵ (strips R α δ Owned Had ss ds)) ∷ raw Know ∷ []) ∵ updating ! $ split ! $ move ! (1 ∷ 2 ∷ []) $
        use2 𝓛 (later (‵ New ⊛ raw Know)) (lends_strips ss ds) $ await ! tt $ split ! $ move ! (2 ∷ 1 ∷ []) $
        use2 𝓛 (later (‵ Here ⊛ raw Know)) (lends_all (block_of s.words) (block_of s.values) ts (s.skip * 8 + count_of s.words) (count_of s.values) s.first) $
        await ! tt $ split ! $ move ! (0 ∷ 2 ∷ []) $ fjoin ! $ now ! $ done !

  abbrev anew : ℕ → ℕ → BaseId
  anew a γ = record z { atom = a; views_name = γ }

  abbrev Any : List Strip → Type 0
  Any ss = Unit {0}

  -- the views that are there then, of no seat or of one, and the seat
  abbrev pub views_of : Option V' → List V'
  views_of None = []
  views_of (Some v) = v ∷ []

  abbrev pub seat_of : ℕ → Option V' → Fml
  seat_of γ None = ftrue
  seat_of γ (Some v) = seen cv'.code γ three_quarters 0 v

  abbrev IsHome : Option V' → Type 0
  IsHome None = Unit {0}
  IsHome (Some v) = cv'.away v ≡ None

  abbrev Begun : ℕ → V' → Option V' → ℕ → Pr
  Begun a d who γ = ⟦ sitting (a ∷ []) cv' γ d (views_of who) ⟧ ∗ ⟦ seat_of γ who ⟧

  sits_down : (a : ℕ) (d : V') (who : Option V') → IsHome who → ent 𝓤 (emp 𝓤) (H.⇛ (ex 𝓤 (Begun a d who)))
  sits_down a d None home = qed 𝓛 [] ∵ updating ! $
      use0 𝓛 (later (items (λ (γ : ℕ). ‵ (sitting (a ∷ []) cv' γ d [])))) (via 𝓤 _ (Sitters.begins 𝓛 (a ∷ []) cv' 0 d)
      (basic 𝓛 (ex 𝓤 (λ (γ : ℕ). ⟦ sitting (a ∷ []) cv' γ d [] ⟧)))) $ await ! tt $ pick ! (λ γ. nothing ! $ now ! $ show ! (Begun a d None) γ $ move ! (1 ∷ 0 ∷ []) $ done !)
  sits_down a d (Some v) home = qed 𝓛 [] ∵ updating ! $
      use0 𝓛 (later (items (λ (γ : ℕ). ‵ (sitting (a ∷ []) cv' γ d [])))) (via 𝓤 _ (Sitters.begins 𝓛 (a ∷ []) cv' 0 d)
      (basic 𝓛 (ex 𝓤 (λ (γ : ℕ). ⟦ sitting (a ∷ []) cv' γ d [] ⟧)))) $ await ! tt $ pick ! (λ γ.
      use1 𝓛 (later (‵ (sitting (a ∷ []) cv' γ d (v ∷ [])) ⊛ ‵ (seen cv'.code γ three_quarters 0 v)))
      (via 𝓤 _ (Sitters.comes 𝓛 (a ∷ []) cv' γ d [] v home) (basic 𝓛 _)) $ await ! tt $ split ! $ now ! $ show ! (Begun a d (Some v)) γ $ done !)

  -- K: what shows that the views are such; over: the views then; Sits: the seats that are had then
  module _ (K : Fml) (Knows : List V → Type 0) (shows : (d : V) (vs : List V) → ⟦ sitting α cv z.views_name d vs ⟧ ∗ ⟦ K ⟧
      ⊢ guard 𝓤 (Knows vs) (⟦ sitting α cv z.views_name d vs ⟧ ∗ ⟦ K ⟧)) (over : List V → List V') (Sits : ℕ → Fml) (sit : (a : ℕ) (d : V') (vs : List V) → Knows vs
      → ent 𝓤 (emp 𝓤) (H.⇛ (ex 𝓤 (λ (γ : ℕ). ⟦ sitting (a ∷ []) cv' γ d (over vs) ⟧ ∗ ⟦ Sits γ ⟧)))) (blank : V → V') where
    abbrev IsGone : BaseId × State R.Denot V W → Type 0
    IsGone u = IsLike u.0 z × WasFound cv.away holds Knows u.1

    abbrev pub Renewed : BaseId × State R.Denot V W → Pr
    Renewed u = guard 𝓤 (IsGone u) (⟦ words_own R own cv' (after u.1) p u.0 ⟧ ∗ ⟦ Sits u.0.views_name ⟧)

    -- THE MEMORY GOES INTO ANOTHER LIFETIME
    module _ (law : (s : State R.Denot V W) → holds s → AreAllBack cv.away s.views → Knows s.views
        → (w : W') × after s record { memory = s.memory; views = over s.views; world = w }) (τ : Lft) (s : Share) (shares : Shares 𝓛 (OptionOf R) (OptionOf R).lives)
        (inc : Incl τ (OptionOf R).lives) where
      pub goes_over : ⟦ words_own R own cv holds p z ⟧ ∗ ⟦ K ⟧ ∗ A.lft τ s ⊢ H.⇛ (ex 𝓤 Renewed ∗ A.lft τ s ∗ ⟦ K ⟧)
      goes_over = qed 𝓛 (‵ (words_own R own cv holds p z) ∷ ‵ K ∷ ‵ (flft τ s) ∷ []) ∵ updating ! $ fsplit3 ! $ move ! (1 ∷ []) $ fsplit ! $ fpick ! (λ placed. leave ! $
          fsplit ! $
          -- [the strip; the invariant; the token; what was lent; what shows it; the type's token]
          move ! (1 ∷ []) $ leave ! $ move ! (1 ∷ []) $
          lft_end ! tt $ use1 𝓛 (‵ (fdead α) ⊛ ‵ (fdead α)) (𝓛.lfts.dead_dup α) $ split ! $ move ! (0 ∷ 3 ∷ []) $ lent_back ! tt $
          fpick ! (λ t. fsplit3 ! $ move ! (2 ∷ []) $ fpick ! (λ sound. leave ! $
          -- [the memory; the views; dead; the strip; what shows it; the type's token]
          move ! (1 ∷ 4 ∷ []) $ use2 𝓛 (given (Knows t.views) (‵ (sitting α cv z.views_name t.blank t.views) ⊛ ‵ K)) (shows t.blank t.views) $ learn ! (λ knows. split ! $
          -- [the views; what shows it; the memory; dead; the strip; the type's token]
          move ! (0 ∷ 2 ∷ 3 ∷ 4 ∷ 5 ∷ []) $
          fsplit ! $ leave ! $ move ! (0 ∷ 2 ∷ []) $
          use2 𝓛 (given (AreAllBack cv.away t.views) (‵ (fdead α))) (Sitters.all_back 𝓛 α cv z.views_name t.views) $ learn ! (λ home. move ! (1 ∷ []) $
          -- [the memory; dead; the strip; the type's token]
          let ws : List ℕ = t.parts.words in let cs : List (Cell R.Denot) = t.parts.cells in fsplit ! $ move ! (1 ∷ []) $ fpick ! (λ ss. fsplit3 ! $ move ! (2 ∷ 4 ∷ []) $
          -- [the strips; dead; their list; what is so of it; the words; the strip; the type's token]
          use2 𝓛 (later (‵ (strips R α δ Owned Had ss cs) ⊛ ‵ (fdead α)))
          (Opening.unlends_strips 𝓛 R α δ Was Had own (Pieces.over 𝓛 R own cv holds p z) ss cs) $ await ! tt $ split ! $
          lft_new ! tt (λ a.
          use0 𝓛 (later (items (λ (γ : ℕ). ‵ (sitting (a ∷ []) cv' γ (blank t.blank) (over t.views)) ⊛ ‵ (Sits γ)))) (sit a (blank t.blank) t.views knows) $ await ! tt $
          pick ! (λ γ. split ! $ move ! (0 ∷ 2 ∷ 3 ∷ 4 ∷ 5 ∷ 6 ∷ 7 ∷ 8 ∷ 9 ∷ []) $
          -- [the views; the token; the strips; dead; their list; what is so of it; the words; the strip; the type's token; the seat]
          let st : State R.Denot V W = state_of z t in
          let y : BaseId = anew a γ in let E : Fml = everything R own cv' (after st) (core_of y) in let β : Lft = age y in
          let r = law st sound.0 home knows in let n : Inside R.Denot V' W' = record { parts = t.parts; blank = blank t.blank; views = over t.views; world = r.0 } in
          let New : Fml = strips R β δ (Lent st y) (Has st y) ss cs in
          move ! (3 ∷ 8 ∷ []) $ join ! $ move ! (3 ∷ 0 ∷ []) $
          use2 𝓛 (later (‵ New ⊛ ‵ (fdead α) ⊛ ‵ (flft τ s))) (lends_strips st y τ s shares inc ss cs) $ await ! tt $ split ! $
          -- [the strips; dead and the type's token; the views; the token; their list; what is so of it; the words; the strip; the seat]
          move ! (4 ∷ 5 ∷ 0 ∷ []) $ fjoin3 ! $ fpack ! (List Strip) (listed R β δ (Lent st y) (Has st y) (book_of z) Any cs) ss $
          -- [the numbers; dead and the type's token; the views; the token; the words; the strip; the seat]
          move ! (4 ∷ 0 ∷ []) $ fjoin ! $
          nothing ! $ fpack ! (after st (state_of y n) × AreLaid y.roots y.count n.parts) (λ _. ftrue) (r.1, sound.1) $ move ! (1 ∷ 3 ∷ 0 ∷ []) $ fjoin3 ! $
          fpack ! (Inside R.Denot V' W') (standing_in R own cv' (after st) (core_of y) Any) n $
          -- [all of it; dead and the type's token; the token; the strip; the seat]
          bor_new ! tt β $ use1 𝓛 (later (‵ (invariant IsEven (fbor β E)))) (Stretches.made 𝓛 IsEven (fbor β E) Stretches.evens) $ await ! tt $
          -- [the invariant; what was lent; dead and the type's token; the token; the strip; the seat]
          move ! (4 ∷ 0 ∷ []) $ fjoin ! $
          nothing ! $ fpack ! (IsPlaced R p y) (λ _. ftrue) placed $ move ! (0 ∷ 1 ∷ []) $ fjoin ! $ move ! (0 ∷ 1 ∷ []) $ fjoin ! $ move ! (2 ∷ 0 ∷ []) $
          fjoin ! $
          -- [the memory; dead and the type's token; the seat]
          move ! (1 ∷ []) $ split ! $ leave ! $ move ! (1 ∷ 2 ∷ []) $
          let u : BaseId × State R.Denot V W = (y, st) in
          use2 𝓛 (raw (ex 𝓤 Renewed)) (via 𝓤 (Renewed u) (guard_i 𝓤 (IsGone u) (⟦ words_own R own cv' (after st) p y ⟧ ∗ ⟦ Sits y.views_name ⟧)
          ((refl, refl, refl, refl, refl, refl, refl, refl, refl, refl, refl, refl, refl, refl, refl), (sound.0, home, knows))) (ex_i 𝓤 Renewed u)) $
          now ! $ done !))))))))

  -- with no seat, or with one that comes
  pub goes_on : (K : Fml) (Knows : List V → Type 0) (shows : (d : V) (vs : List V) → ⟦ sitting α cv z.views_name d vs ⟧ ∗ ⟦ K ⟧
      ⊢ guard 𝓤 (Knows vs) (⟦ sitting α cv z.views_name d vs ⟧ ∗ ⟦ K ⟧)) (who : Option V') (comes : IsHome who) (blank : V → V')
      (law : (s : State R.Denot V W) → holds s → AreAllBack cv.away s.views → Knows s.views
      → (w : W') × after s record { memory = s.memory; views = views_of who; world = w }) (τ : Lft) (s : Share) (shares : Shares 𝓛 (OptionOf R) (OptionOf R).lives)
      (inc : Incl τ (OptionOf R).lives) → ⟦ words_own R own cv holds p z ⟧ ∗ ⟦ K ⟧ ∗ A.lft τ s
      ⊢ H.⇛ (ex 𝓤 (λ (u : BaseId × State R.Denot V W). guard 𝓤 (IsLike u.0 z × WasFound cv.away holds Knows u.1)
      (⟦ words_own R own cv' (after u.1) p u.0 ⟧ ∗ ⟦ seat_of u.0.views_name who ⟧)) ∗ A.lft τ s ∗ ⟦ K ⟧)
  goes_on K Knows shows who comes blank =
      goes_over K Knows shows (λ _. views_of who) (λ γ. seat_of γ who) (λ a d vs knows. sits_down a d who comes) blank

  -- with the same seats, one of which is had
  module _ (id : ℕ) (left : V → V') (heir : V') (home : (v : V) → cv'.away (left v) ≡ None) (comes : cv'.away heir ≡ None) where
    abbrev Seat : ℕ → ℕ → Fml
    Seat γ i = seen cv'.code γ three_quarters i heir

    -- they come one after another
    all_sit : (a γ : ℕ) (d : V') (come : List V') (vs : List V) → ⟦ sitting (a ∷ []) cv' γ d come ⟧ ⊢ H.⇛ ⟦ sitting (a ∷ []) cv' γ d (come ++ map left vs) ⟧
    all_sit a γ d come [] = qed 𝓛 (‵ (sitting (a ∷ []) cv' γ d come) ∷ []) ∵ updating ! $
        rewrite ! 0 (λ (us : List V'). ‵ (sitting (a ∷ []) cv' γ d us)) (sym (append-nil come)) refl $ now ! $ done !
    all_sit a γ d come (v ∷ vs) = qed 𝓛 (‵ (sitting (a ∷ []) cv' γ d come) ∷ []) ∵ updating ! $
        use1 𝓛 (later (‵ (sitting (a ∷ []) cv' γ d (come ++ left v ∷ [])) ⊛ ‵ (seen cv'.code γ three_quarters (length come) (left v))))
        (via 𝓤 _ (Sitters.comes 𝓛 (a ∷ []) cv' γ d come (left v) (home v)) (basic 𝓛 _)) $ await ! tt $ split ! $ keep ! (0 ∷ []) $
        use1 𝓛 (later (‵ (sitting (a ∷ []) cv' γ d ((come ++ left v ∷ []) ++ map left vs)))) (all_sit a γ d (come ++ left v ∷ []) vs) $ await ! tt $
        rewrite ! 0 (λ (us : List V'). ‵ (sitting (a ∷ []) cv' γ d us)) (append_assoc come (left v ∷ []) (map left vs)) refl $ now ! $ done !

    heir_sits : (a γ : ℕ) (d : V') (come : List V') (vs : List V) (i : ℕ) (v : V) → slice_get vs i ≡ Some v
        → ⟦ sitting (a ∷ []) cv' γ d come ⟧ ⊢ H.⇛ (⟦ sitting (a ∷ []) cv' γ d (come ++ slice_set (map left vs) i heir) ⟧ ∗ ⟦ Seat γ (length come + i) ⟧)
    heir_sits a γ d come [] i v at = absurd (cc at)
    heir_sits a γ d come (u ∷ us) zero v at =
        let here : length come ≡ length come + 0 = omega arith in qed 𝓛 (‵ (sitting (a ∷ []) cv' γ d come) ∷ []) ∵ updating ! $
        use1 𝓛 (later (‵ (sitting (a ∷ []) cv' γ d (come ++ heir ∷ [])) ⊛ ‵ (Seat γ (length come)))) (via 𝓤 _ (Sitters.comes 𝓛 (a ∷ []) cv' γ d come heir comes) (basic 𝓛 _)) $
        await ! tt $ split ! $ use1 𝓛 (later (‵ (sitting (a ∷ []) cv' γ d ((come ++ heir ∷ []) ++ map left us)))) (all_sit a γ d (come ++ heir ∷ []) us) $ await ! tt $
        rewrite ! 0 (λ (ws : List V'). ‵ (sitting (a ∷ []) cv' γ d ws)) (append_assoc come (heir ∷ []) (map left us)) refl $
        rewrite ! 1 (λ (k : ℕ). ‵ (Seat γ k)) here refl $ now ! $ done !
    heir_sits a γ d come (u ∷ us) (suc i) v at = let rest : List V' = slice_set (map left us) i heir in let more : List V' = come ++ left u ∷ [] in
        let there : length more + i ≡ length come + suc i = omega (arith, length-append come (left u ∷ [])) in qed 𝓛 (‵ (sitting (a ∷ []) cv' γ d come) ∷ []) ∵ updating ! $
        use1 𝓛 (later (‵ (sitting (a ∷ []) cv' γ d more) ⊛ ‵ (seen cv'.code γ three_quarters (length come) (left u))))
        (via 𝓤 _ (Sitters.comes 𝓛 (a ∷ []) cv' γ d come (left u) (home u)) (basic 𝓛 _)) $ await ! tt $ split ! $ keep ! (0 ∷ []) $
        use1 𝓛 (later (‵ (sitting (a ∷ []) cv' γ d (more ++ rest)) ⊛ ‵ (Seat γ (length more + i)))) (heir_sits a γ d more us i v at) $ await ! tt $ split ! $
        rewrite ! 0 (λ (ws : List V'). ‵ (sitting (a ∷ []) cv' γ d ws)) (append_assoc come (left u ∷ []) rest) refl $
        rewrite ! 1 (λ (k : ℕ). ‵ (Seat γ k)) there refl $ now ! $ done !

    pub sits_again : (v : V) (a : ℕ) (d : V') (vs : List V) → slice_get vs id ≡ Some v
        → ent 𝓤 (emp 𝓤) (H.⇛ (ex 𝓤 (λ (γ : ℕ). ⟦ sitting (a ∷ []) cv' γ d (slice_set (map left vs) id heir) ⟧ ∗ ⟦ Seat γ id ⟧)))
    sits_again v a d vs at = let ws : List V' = slice_set (map left vs) id heir in
        let Had : ℕ → Pr = λ γ. ⟦ sitting (a ∷ []) cv' γ d ws ⟧ ∗ ⟦ Seat γ id ⟧ in let same : 0 + id ≡ id = omega arith in qed 𝓛 [] ∵ updating ! $
        use0 𝓛 (later (items (λ (γ : ℕ). ‵ (sitting (a ∷ []) cv' γ d [])))) (via 𝓤 _ (Sitters.begins 𝓛 (a ∷ []) cv' 0 d)
        (basic 𝓛 (ex 𝓤 (λ (γ : ℕ). ⟦ sitting (a ∷ []) cv' γ d [] ⟧)))) $ await ! tt $ pick ! (λ γ.
        use1 𝓛 (later (‵ (sitting (a ∷ []) cv' γ d ws) ⊛ ‵ (Seat γ (0 + id)))) (heir_sits a γ d [] vs id v at) $ await ! tt $ split ! $
        rewrite ! 1 (λ (k : ℕ). ‵ (Seat γ k)) same refl $ now ! $ show ! Had γ $ done !)

  -- a seat shows its view
  pub shows_itself : (id : ℕ) (v : V) (d : V) (vs : List V) → ⟦ sitting α cv z.views_name d vs ⟧ ∗ ⟦ seen cv.code z.views_name three_quarters id v ⟧
      ⊢ guard 𝓤 (slice_get vs id ≡ Some v) (⟦ sitting α cv z.views_name d vs ⟧ ∗ ⟦ seen cv.code z.views_name three_quarters id v ⟧)
  shows_itself id v d vs = qed 𝓛 (‵ (sitting α cv z.views_name d vs) ∷ ‵ (seen cv.code z.views_name three_quarters id v) ∷ []) ∵
      use2 𝓛 (given (slice_get vs id ≡ Some v) (‵ (sitting α cv z.views_name d vs) ⊛ ‵ (seen cv.code z.views_name three_quarters id v)))
      (Sitters.sits 𝓛 α cv z.views_name d vs id three_quarters v) $ learn ! (λ at. check ! at $ split ! $ done !)

  pub shows_nothing : (d : V) (vs : List V) → ⟦ sitting α cv z.views_name d vs ⟧ ∗ ⟦ ftrue ⟧ ⊢ guard 𝓤 (Unit {0}) (⟦ sitting α cv z.views_name d vs ⟧ ∗ ⟦ ftrue ⟧)
  shows_nothing d vs = qed 𝓛 (‵ (sitting α cv z.views_name d vs) ∷ ‵ ftrue ∷ []) ∵ check ! tt $ done !

module _ {M : Type 1} {𝓤 : Ura M} (𝓛 : Logic 𝓤) (R : RattleType) (own : Pieces R.Denot) {V W : Type 0} (cv : ViewCode V) (holds : State R.Denot V W → Type 0) (after : State R.Denot V W → State R.Denot V W → Type 0) (p : Ptr) (z : BaseId) where
  open 𝓛 use {H, A}

  abbrev Knows : List V → Type 0
  Knows _ = Unit {0}

  abbrev IsFrom : BaseId × State R.Denot V W → Type 0
  IsFrom u = IsLike u.0 z × WasFound cv.away holds Knows u.1

  abbrev Anew : BaseId × State R.Denot V W → SProp 𝓤
  Anew u = guard 𝓤 (IsFrom u) (sem 𝓛 (words_own R own cv (after u.1) p u.0))

  -- with no seat
  pub renews : (law : (s : State R.Denot V W) → holds s → AreAllBack cv.away s.views → (w : W) × after s record { memory = s.memory; views = []; world = w }) (τ : Lft) (s : Share) (shares : Shares 𝓛 (OptionOf R) (OptionOf R).lives) (inc : Incl τ (OptionOf R).lives)
      → ent 𝓤 (sep 𝓤 (sem 𝓛 (words_own R own cv holds p z)) (A.lft τ s)) (H.⇛ (sep 𝓤 (ex 𝓤 Anew) (A.lft τ s)))
  renews law τ s shares inc = let w = shows_nothing 𝓛 R own cv cv holds after p z in
      qed 𝓛 (‵ (words_own R own cv holds p z) ∷ ‵ (flft τ s) ∷ []) ∵ updating ! $ nothing ! $ move ! (1 ∷ 0 ∷ 2 ∷ []) $
      use3 𝓛 (later (items (λ (u : BaseId × State R.Denot V W). given (IsFrom u) (‵ (words_own R own cv (after u.1) p u.0) ⊛ ‵ ftrue)) ⊛ ‵ (flft τ s) ⊛ ‵ ftrue))
      (goes_on 𝓛 R own cv cv holds after p z ftrue Knows w None tt (λ v. v) (λ st h back _. law st h back) τ s shares inc) $ await ! tt $ split3 ! $ pick ! (λ u. learn ! (λ like. split ! $
      move ! (0 ∷ 2 ∷ []) $ use1 𝓛 (raw (ex 𝓤 Anew)) (via 𝓤 (Anew u) (guard_i 𝓤 (IsFrom u) (sem 𝓛 (words_own R own cv (after u.1) p u.0)) like) (ex_i 𝓤 Anew u)) $
      now ! $ keep ! (0 ∷ 1 ∷ []) $ done !))
