-- What the definitions refuse: a table that a call has unlinked and forgotten, one that its copier has come past, and rest while a map is made.
use Rattle.std.specs.Prelude.{◌≢◌, ◌*◌, Option, Some, None}
use Rattle.std.proofs.Common.{◌≡◌, ◌+◌, ◌≤◌, ℕ, Bool, true, List, [], inl, inr, refl, arith, ap, sym, subst, ◌∙◌}
use Rattle.run_shows.specs.Given.SeizeWordsMem.{value_at}
use Rattle.run_shows.specs.Given.SeizeDeclared.rows.reclaim_all.ReclaimAll.{ReclaimAll}
use Rattle.run_shows.specs.Given.SeizeWorld.{World, Cutting, with_at}
use Rattle.seize_acts.specs.Acts.Reclaimed.{IsStillHad}
use Rattle.run_shows.specs.Given.TablesChunks.{is_incremental}
use Rattle.run_shows.specs.Given.TablesNodes.{deferred_word}
use Rattle.run_shows.specs.Given.TablesDeclared.node.Node.{Node}
use Rattle.run_shows.specs.Given.ResizeDeclared.copier.Copier.{Copier}
use Rattle.run_shows.specs.Given.ResizeDeclared.copier.Copying.{Copying}
use Rattle.run_shows.specs.Given.ResizeDeclared.copier.Copying.TheVariants as copies
use Rattle.owner_facts.specs.Given.CallersTogether.{UnderWay}
use Rattle.owner_facts.specs.Given.FinishesMakings.{Beginning}
use Rattle.owner_facts.specs.Given.FinishesMaps.{Standing}
use Rattle.many_acts.specs.Carries.Lists.{SceneIsQuiescent, ReclaimsTo}
use Rattle.many_acts.specs.Carries.Theirs.{IsObligedAt, next_of_them, IsAhead, IsToCome, copier_of, IsToHandOver, HasObligation, IsTheirs, AllAreTheirs}
use Rattle.many_acts.proofs.Carries.Owed.{one_some}
use Rattle.run_shows.specs.Scenes.Scene.{Scene, at_first}

module _ {K V Q : Type 0} (w : World (Node K V)) (maps : ℕ → Option (Standing K)) (b field i : ℕ) (value : Node K V)
    (cut : w.hand b ≡ Cutting i) (there : value_at w.memory b ≡ Some value) (has_list : deferred_word value ≡ Some field)
    (passed : (m : ℕ) (s : Standing K) → maps m ≡ Some s → (t : ℕ) → s.chart.first ≤ t → b ≢ s.blocks.table t) where
  -- a call that is not to hand the table over has forgotten it
  forgotten : (calls : ℕ → ℕ → Option (UnderWay K V Q)) → ((m j : ℕ) (u : UnderWay K V Q) → calls m j ≡ Some u → HasObligation w maps m j u b → ⊥) → AllAreTheirs w maps calls (λ j. None) → ⊥
  forgotten calls none theirs = by (theirs b (subst IsStillHad (sym cut) tt, field, value, there, has_list))
    where
      by : IsTheirs w maps calls (λ j. None) b → ⊥
      by (inl (m, s, here, t, from, made, at)) = passed m s here t from at
      by (inr (inl (m, j, u, under, owes))) = none m j u under owes
      by (inr (inr (j, f, ends, t, from, made, at, back))) = cc ends

  -- so one that has ended has, too
  ended_without : AllAreTheirs {Q = Q} w maps (λ m j. None) (λ j. None) → ⊥
  ended_without theirs = forgotten (λ m j. None) (λ m j u under owes. cc under) theirs

-- A copier that has come to its end owes none: what it has not handed over by then, it has forgotten.
module _ {K V Q : Type 0} (w : World (Node K V)) (maps : ℕ → Option (Standing K)) (m i b : ℕ) (u : UnderWay K V Q) where
  over_owes_none : (p : Copier) → copier_of u ≡ Some p → p.stands ≡ copies.Over → HasObligation w maps m i u b → ⊥
  over_owes_none p within over (q, is, hands) = by hands
    where
      at : q.stands ≡ copies.Over
      at = ap (λ (x : Copier). x.stands) (one_some (copier_of u) q p is within) ∙ over

      by : IsToHandOver w maps m i q b → ⊥
      by (inl (rests, due)) = subst (λ (x : Copying). IsObligedAt q x b) at due
      by (inr (s, here, blocking, ahead)) =
          let word = ap (λ (x : Copying). next_of_them q x) at in let named = ahead.1.named in let some = ahead.1.some in omega (arith, word, named, some)

  -- in incremental mode there is one table to hand over, and none ahead
  one_at_a_time : (s : Standing K) → maps m ≡ Some s → is_incremental s.setting.mode ≡ true → (p : Copier) → IsToCome maps m p b → ⊥
  one_at_a_time s here bits p (r, is, blocking, ahead) =
      let mode = ap (λ (x : Standing K). is_incremental x.setting.mode) (one_some (maps m) r s is here) in cc (mode, bits, blocking)

-- of four tables, in the blocks 10 to 13, the last is the target, and the word names the second
abbrev IsAheadThere : ℕ → ℕ → Type 0
IsAheadThere word b = IsAhead 4 (λ t. t + 10) word 3 b

-- that one is ahead, and so is the one behind
second_is : IsAheadThere (11 * 2048) 11
second_is = (1, record { named = refl; some = omega arith; last = λ u after before e. omega (arith, after, e); made = omega arith }, 1, omega arith, omega arith, refl)

third_is : IsAheadThere (11 * 2048) 12
third_is = (1, record { named = refl; some = omega arith; last = λ u after before e. omega (arith, after, e); made = omega arith }, 2, omega arith, omega arith, refl)

-- the one before it has been handed over, and the target is the root
first_is_not : IsAheadThere (11 * 2048) 10 → ⊥
first_is_not (t, next, u, from, before, at) = let named = next.named in omega (arith, named, from, at)

target_is_not : IsAheadThere (11 * 2048) 13 → ⊥
target_is_not (t, next, u, from, before, at) = omega (arith, before, at)

-- once no word names one, none is
none_is : (b : ℕ) → IsAheadThere 0 b → ⊥
none_is b (t, next, u, from, before, at) = let named = next.named in omega (arith, named)

-- At first nobody has anything under way. While a map is made, somebody has.
first_rests : {K V : Type 0} (roots : ℕ) → SceneIsQuiescent (at_first {K = K} {V = V} roots)
first_rests roots = record { no_calls = λ m i. refl; no_makers = λ i. refl; no_enders = λ i. refl; rows = λ j. refl }

making_goes_on : {K V : Type 0} (roots : ℕ) (b : Beginning K) → SceneIsQuiescent (record (at_first {K = K} {V = V} roots) { makers = with_at (λ i. None) 0 (Some b) }) → ⊥
making_goes_on roots b rest = let none = rest.no_makers 0 in cc none

-- Whoever reclaims all, and has taken no step of it, has not come to its end.
no_step_yet : {K S : Type 0} (V : Type 0) (same : K → K → Bool) (hash : S → K → ℕ) (batch_size roots : ℕ) (slot : ℕ → ℕ) (i : ℕ) (s n : Scene K V) (lists : ℕ → List ℕ) (c : ReclaimAll)
    → ReclaimsTo V same hash batch_size roots slot i [] s lists c n → ⊥
no_step_yet V same hash batch_size roots slot i s n lists c to = to
