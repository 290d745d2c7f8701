-- A map that ends goes on so while others take their steps: what it has not reclaimed is there, and noted as it was.
use Rattle.std.specs.Prelude.{◌≡◌, ◌==◌, ℕ, Bool, true, false, Some, None, if◌then◌else◌}
use Rattle.std.proofs.Common.{refl, ap, sym, subst, ◌∙◌, arith, inl, inr}
use Rattle.std.proofs.lemmas.Bool.{eq-eqb}
use Rattle.run_schedules.specs.Given.SeizeWordsMem.{Mem, value_at}
use Rattle.seize_acts.specs.Given.SeizeWorld.{times}
use Rattle.play_lists.specs.Given.TablesDeclared.node.Node.{Node}
use Rattle.play_lists.specs.Given.FinishesEndings.{Finishing, FinishingFacts}
use Rattle.run_schedules.specs.Schedules.Moment.{Moment}
use Rattle.play_lists.specs.Given.EffectsEffects.{known_after}
use Rattle.play_lists.specs.Given.EffectsKnown.{Known}
use Rattle.play_lists.specs.Given.EffectsDeclared.acting.Acting.{Acting}
use Rattle.play_lists.specs.Given.EffectsDeclared.role.Role.{Role}
use Rattle.play_lists.specs.Given.EffectsDeclared.role.Role.TheVariants as role
use Rattle.play_lists.specs.Given.FollowsBlocks.{RefinesBlocks}
use Rattle.play_lists.specs.Given.ScenesHeld.{Held, IsAt}
use Rattle.play_lists.specs.Given.ScenesScene.{Scene}
use Rattle.play_lists.proofs.Given.FollowsOperations.{LeavesBy, Operated, operated_leaves}
use Rattle.run_logged.specs.Log.Ends.{NotedStill, NotesMap}
use Rattle.play_linear.specs.Linear.Coming.{Goes, IsGone, IsItsBlock}
use Rattle.play_linear.proofs.Linear.Lasting.{IsLasting, lasting_there, lasts}

module _ {K V : Type 0} (map : ℕ) (f : Finishing K V) (known : Known) (s : Scene K V) (so : Goes map f known s) where
  -- each block that it has not reclaimed is noted as what lasts
  its_lasts : (b : ℕ) → IsItsBlock f b → times b f.back ≡ 0 → IsLasting (known.roles b)
  its_lasts b its none = subst IsLasting (sym (so.still b its none)) (by its)
    where
      by : IsItsBlock f b → IsLasting (so.first.roles b)
      by (inl (n, current, is)) = subst IsLasting (sym (ap so.first.roles is ∙ so.notes.pairs n current)) tt
      by (inr (inl (t, from, made, is))) = subst IsLasting (sym (ap so.first.roles is ∙ so.notes.tables t from made)) tt
      by (inr (inr is)) = subst IsLasting (sym (ap so.first.roles is ∙ so.notes.counter)) tt

  -- The blocks as they are noted now, but that those that were reclaimed are what they were: so all of it is noted.
  abbrev pub as_noted : Known
  as_noted = record known { roles = λ b. if times b f.back == 0 then known.roles b else so.first.roles b }

  noted_so : (b : ℕ) (r : Role) → IsItsBlock f b → so.first.roles b ≡ r → as_noted.roles b ≡ r
  noted_so b r its is = by (times b f.back == 0) refl
    where
      by : (q : Bool) → (times b f.back == 0) ≡ q → (if q then known.roles b else so.first.roles b) ≡ r
      by true e = so.still b its (grind (arith, e)) ∙ is
      by false e = is

  pub notes_all : NotesMap map so.number as_noted f.setting f.chart f.blocks
  notes_all = record {
    pairs = λ n current. noted_so (f.blocks.pair n) (role.Pair (so.number n)) (inl (n, current, refl)) (so.notes.pairs n current);
    tables = λ t from made. noted_so (f.blocks.table t) _ (inr (inl (t, from, made, refl))) (so.notes.tables t from made);
    counter = noted_so f.setting.counter (role.Counter map) (inr (inr refl)) so.notes.counter;
  }

  pub notes_still : NotedStill as_noted known f.back
  notes_still b none = sym (ap (λ (q : Bool). if q then known.roles b else so.first.roles b) (eq-eqb (times b f.back) 0 none))

  -- where nothing is done
  pub goes_alike : (n : Scene K V) → IsGone map n → Goes map f known n
  goes_alike n gone = record { gone = gone; number = so.number; first = so.first; notes = so.notes; still = so.still }

  -- Who acts may be anybody else.
  module _ (same : K → K → Bool) (hash : ℕ → K → ℕ) (m : Moment K V) (n : Scene K V) (old new : Held K V) (at : IsAt same hash old s) (at2 : IsAt same hash new n) (shown : RefinesBlocks m known s.world)
      (op : Operated old.memory new.memory new.changed) (its : Acting) (j : ℕ) (ends : s.enders j ≡ Some f) (ends2 : n.enders j ≡ Some f) where
    left : LeavesBy s.world.memory n.world.memory new.changed
    left =
        subst (λ (x : Mem (Node K V)). LeavesBy s.world.memory x new.changed) (sym at2.memory)
        (subst (λ (x : Mem (Node K V)). LeavesBy x new.memory new.changed) (sym at.memory) (operated_leaves old.memory new.memory new.changed op))

    before : FinishingFacts same old.batch_size s.world j f
    before = at.together.facts j f ends

    then_facts : FinishingFacts same new.batch_size n.world j f
    then_facts = at2.together.facts j f ends2

    value_same : (b : ℕ) → IsItsBlock f b → times b f.back ≡ 0 → value_at n.world.memory b ≡ value_at s.world.memory b
    value_same b (inl (k, current, is)) none =
        let here = subst (λ (x : ℕ). times x f.back ≡ 0) is none in
        subst (λ (x : ℕ). value_at n.world.memory x ≡ value_at s.world.memory x) (sym is)
        ((then_facts.facts.since.pairs k current here).0.value ∙ sym (before.facts.since.pairs k current here).0.value)
    value_same b (inr (inl (t, from, made, is))) none =
        let here = subst (λ (x : ℕ). times x f.back ≡ 0) is none in
        subst (λ (x : ℕ). value_at n.world.memory x ≡ value_at s.world.memory x) (sym is)
        ((then_facts.facts.since.tables t from made here).still.value ∙ sym (before.facts.since.tables t from made here).still.value)
    value_same b (inr (inr is)) none =
        let here = subst (λ (x : ℕ). times x f.back ≡ 0) is none in
        subst (λ (x : ℕ). value_at n.world.memory x ≡ value_at s.world.memory x) (sym is)
        ((then_facts.facts.since.counter here).0 ∙ sym (before.facts.since.counter here).0)

    -- so it is noted as it was
    pub noted_beside : (b : ℕ) → IsItsBlock f b → times b f.back ≡ 0 → (known_after its new.changed known).roles b ≡ known.roles b
    noted_beside b is none =
        let lasting = its_lasts b is none in
        let there : value_at s.world.memory b ≡ None → ⊥ = lasting_there s.world m b (known.roles b) (shown.roles b) lasting in
        lasts known its b lasting s.world.memory n.world.memory there (λ gone_now. there (sym (value_same b is none) ∙ gone_now)) new.changed left

    pub goes_beside : IsGone map n → Goes map f (known_after its new.changed known) n
    goes_beside gone = record { gone = gone; number = so.number; first = so.first; notes = so.notes; still = λ b is none. noted_beside b is none ∙ so.still b is none }
