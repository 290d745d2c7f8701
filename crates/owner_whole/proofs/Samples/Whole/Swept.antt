-- What a sweep leaves, shows and is told, on cases worked by hand.
use Rattle.std.specs.Prelude.{◌≡◌, ℕ, Bool, true, false, List, [], ◌∷◌}
use Rattle.std.proofs.Common.{refl, ap, sym, ◌∙◌}
use Rattle.seize_words.specs.OneMemory.Mem.{Mem}
use Rattle.map_tables.specs.declared.node.Node.{Node}
use Rattle.papaya_raw.specs.Given.ReservesDeclared.sweep.Purpose.TheVariants.{Walks, Clears, Retains}
use Rattle.papaya_raw.specs.Given.ReservesDeclared.sweep.Sweeping.TheVariants as at
use Rattle.papaya_raw.specs.Given.ReservesDeclared.sweep.Swept.TheVariants as swept
use Rattle.map_measures.specs.Given.RuleChart.{Chart}
use Rattle.map_measures.specs.Given.RuleWords.{Blocks}
use Rattle.map_measures.specs.Given.LateCovers.{times}
use Rattle.owner_facts.specs.Given.CallersOverAll.{CallOverAll}
use Rattle.owner_whole.specs.Whole.LoneSweeps.{goes_once}
use Rattle.owner_whole.specs.Whole.SweptPairs.{HasSwept, pairs_of, left_by}
use Rattle.owner_whole.specs.Whole.WholeSweeps.{NamesPairOf, ShowsNew, uncounted}

-- pairs 4, 6 and 7, one stored after the other
abbrev three : List (ℕ × (ℕ × ℕ))
three = (4, (1, 10)) ∷ (6, (2, 20)) ∷ (7, (3, 30)) ∷ []

-- a retaining that was told to keep 7, and then 4, leaves them in the order of the list; and nothing where it was told to keep none
kept : left_by Retains (4 ∷ 7 ∷ []) three ≡ (4, (1, 10)) ∷ (7, (3, 30)) ∷ []
kept = refl

none_kept : left_by Retains [] three ≡ []
none_kept = refl

-- a clearing leaves nothing, and a walk all, whatever it has shown
cleared : left_by Clears (4 ∷ []) three ≡ []
cleared = refl

walked : pairs_of (left_by Walks [] three) ≡ (1, 10) ∷ (2, 20) ∷ (3, 30) ∷ []
walked = refl

-- in blocking mode a walk goes over one table alone, and a retaining may not
once_walks : goes_once false Walks ≡ true
once_walks = refl

not_once : goes_once false Retains ≡ true → ⊥
not_once e = cc e

-- one pair is uncounted between its removal and its counting alone
counts : uncounted (at.Counts 8) ≡ 1
counts = refl

tries : uncounted (at.Tries 8) ≡ 0
tries = refl

module _ (hash : ℕ → ℕ) (m m0 : Mem (Node ℕ ℕ)) (c c0 : Chart ℕ) (blocks blocks0 : Blocks) where
  -- a pair that was shown is not shown again
  not_again : (h : ShowsNew hash m c blocks true (4 ∷ []) (4 ∷ 4 ∷ []) (swept.Pair 8)) → h.0 ≡ 4 → ⊥
  not_again h is = let none = sym (ap (λ (n : ℕ). times n (4 ∷ [])) is) ∙ h.3.1 in cc none

  -- nor is one that the map has no more
  not_gone : (k v : ℕ) → c.current 4 ≡ false → NamesPairOf hash m c blocks 8 4 k v → ⊥
  not_gone k v gone it = let is = it.is_there in cc (gone, is)

  module _ (asked : List ℕ) (o : CallOverAll) (had : c0.current 4 ≡ true) (there : c.current 4 ≡ true) where
    -- a retaining that was told to keep a pair was not told so twice
    not_twice : asked ≡ 4 ∷ 4 ∷ [] → o.done ≡ 4 ∷ [] → o.sweep.purpose ≡ Retains → o.sweep.stands ≡ at.Over → HasSwept true m0 c0 blocks0 asked o m c blocks → ⊥
    not_twice asked_is done_is retains over h =
        let many = ap (times 4) asked_is in
        let one = ap (times 4) done_is in
        let e = h.asks (ap (goes_once true) retains) retains 4 in
        cc (many, one, e, had, there, over)

  -- a walk removes nothing
  not_removed : (asked : List ℕ) (o : CallOverAll) → o.sweep.purpose ≡ Walks → c0.current 4 ≡ true → c.current 4 ≡ false → HasSwept true m0 c0 blocks0 asked o m c blocks → ⊥
  not_removed asked o walks had gone h = let e = ap (λ (f : ℕ → Bool). f 4) (h.walks walks) in cc (e, had, gone)
