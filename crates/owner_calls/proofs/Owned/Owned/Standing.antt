-- Each pair of the map stands in a block of its own.
use Rattle.std.specs.Prelude.{◌≡◌, ◌≢◌, ℕ, zero, suc, ◌<◌, Bool, true, false, cond, List, [], ◌∷◌, ◌++◌, Some}
use Rattle.std.proofs.Common.{refl, sym, ◌∙◌, ap, subst, arith, inl, inr}
use Rattle.seize_words.specs.OneMemory.Mem.{Mem, value_at}
use Rattle.seize.specs.World.{times}
use Rattle.map_tables.specs.declared.node.Node.{Node}
use Rattle.map_tables.specs.declared.node.Node.TheVariants as node
use Rattle.map_tables.specs.declared.setting.Setting.{Setting}
use Rattle.map_straight.specs.Given.RuleChart.{Chart}
use Rattle.map_straight.specs.Given.RuleInWorld.{IsMapIn}
use Rattle.map_straight.specs.Given.RuleWords.{Blocks}
use Rattle.map_straight.proofs.Given.RuleWorld.Hands.{current_known}
use Rattle.owner_whole.proofs.Given.FinishesEnds.CountedBlocks.{times-append, times_here, times_other}
use Rattle.owner_whole.specs.Whole.Contents.{ContentsBelow}
use Rattle.owner_whole.proofs.Whole.Contents.Below.{ends_with, as_before}
use Rattle.owner_calls.specs.Owned.Owned.{Holds}
use Rattle.owner_whole.specs.Strides.Standing.{Standing}
use Rattle.seize_words.proofs.General.{true_or_false as decided}

-- one more, in a block in which none of the others stands
standing_push : {K V : Type 0} (m : Mem (Node K V)) (blocks : List ℕ) (xs : List (K × V)) (b : ℕ) (x : K × V) → Standing m blocks xs → value_at m b ≡ Some (node.Pair x.0 x.1) → times b blocks ≡ 0
    → Standing m (blocks ++ (b ∷ [])) (xs ++ (x ∷ []))
standing_push m [] [] b x s here none = (here, refl, tt)
standing_push m (d ∷ blocks) (y ∷ xs) b x s here none = (s.0, alone, standing_push m blocks xs b x s.2 here rest)
  where
    apart : b ≢ d
    apart e = let k = subst (λ (z : ℕ). times b (z ∷ blocks) ≡ suc (times b blocks)) e (times_here b blocks) in omega (arith, k, none)

    rest : times b blocks ≡ 0
    rest = sym (times_other b d blocks apart) ∙ none

    alone : times d (blocks ++ (b ∷ [])) ≡ 0
    alone = let k = times-append d blocks (b ∷ []) in let o = times_other d b [] (λ e. apart (sym e)) in let s1 = s.1 in omega (arith, k, o, s1)
standing_push m [] (y ∷ xs) b x s here none = absurd s
standing_push m (d ∷ blocks) [] b x s here none = absurd s

-- the blocks of the map's pairs
module _ {K : Type 0} (c : Chart K) (f : ℕ → ℕ) where
  -- with numbers below this one
  abbrev pub blocks_below : ℕ → List ℕ
  blocks_below zero = []
  blocks_below (suc n) = cond (c.current n) (blocks_below n ++ (f n ∷ [])) (blocks_below n)

  pub none_there : (b n : ℕ) → ((o : ℕ) → o < n → c.current o ≡ true → b ≢ f o) → times b (blocks_below n) ≡ 0
  none_there b zero apart = refl
  none_there b (suc n) apart = by (c.current n) refl (none_there b n (λ o l. apart o (omega (arith, l))))
    where
      by : (x : Bool) → c.current n ≡ x → times b (blocks_below n) ≡ 0 → times b (cond x (blocks_below n ++ (f n ∷ [])) (blocks_below n)) ≡ 0
      by true is before = let k = times-append b (blocks_below n) (f n ∷ []) in let o = times_other b (f n) [] (apart n (omega arith) is) in omega (arith, k, o, before)
      by false is before = before

  -- those pairs stand there, by other numbers of the same blocks
  module _ {V : Type 0} (m : Mem (Node K V)) (blocks : Blocks) (sees : (o : ℕ) → c.current o ≡ true → f o ≡ blocks.pair o)
      (apart : (n o : ℕ) → c.current n ≡ true → c.current o ≡ true → f n ≡ f o → n ≡ o) where
    pub standing_below : (n : ℕ) (xs : List (K × V)) → ContentsBelow m c blocks n xs → Standing m (blocks_below n) xs
    standing_below zero xs is = subst (Standing m []) (sym is) tt
    standing_below (suc n) xs below = elim (decided (c.current n)) as (λ _. Standing m (blocks_below (suc n)) xs) [
      | inl e ↦
          (let l = ends_with m c blocks n xs e below in
          subst (λ (b : Bool). Standing m (cond b (blocks_below n ++ (f n ∷ [])) (blocks_below n)) xs) (sym e)
          (subst (Standing m (blocks_below n ++ (f n ∷ []))) (sym l.is)
          (standing_push m (blocks_below n) l.before (f n) (l.key, l.value) (standing_below n l.before l.below) (ap (value_at m) (sees n e) ∙ l.block)
          (none_there (f n) n (λ o low now alike. let z = apart n o e now alike in omega (arith, z, low))))))
      | inr e ↦ subst (λ (b : Bool). Standing m (cond b (blocks_below n ++ (f n ∷ [])) (blocks_below n)) xs) (sym e) (standing_below n xs (as_before m c blocks n xs e below))
    ]

-- Between two changes of one owner.
pub pairs_stand : {K V : Type 0} (same : K → K → Bool) (hash : K → ℕ) (setting : Setting) (m : Mem (Node K V)) (xs : List (K × V)) → Holds same hash setting m xs → (blocks : List ℕ) × Standing m blocks xs
pairs_stand {K} {V} same hash setting m xs h = (
  blocks_below h.chart h.blocks.pair h.chart.stored,
  subst (λ (x : Mem (Node K V)). Standing x (blocks_below h.chart h.blocks.pair h.chart.stored) xs) h.memory
      (standing_below h.chart h.blocks.pair h.world.memory h.blocks (λ o now. refl) apart h.chart.stored xs h.are),
)
  where
    map : IsMapIn same hash setting h.world h.chart h.blocks
    map = h.rests.together.ground.map

    apart : (n o : ℕ) → h.chart.current n ≡ true → h.chart.current o ≡ true → h.blocks.pair n ≡ h.blocks.pair o → n ≡ o
    apart n o now now2 alike =
        let k = current_known same hash setting h.world h.chart h.blocks map.map.rule map.map.shows n now in
        let k2 = current_known same hash setting h.world h.chart h.blocks map.map.rule map.map.shows o now2 in
        map.map.shows.pairs_apart n o k.0 k2.0 k.1 k2.1 alike
