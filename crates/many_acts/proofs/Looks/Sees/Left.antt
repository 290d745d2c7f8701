-- What a step of a call on one key has seen in a table that the root has left, in blocking mode: its section holds it, or it is the call's own pair.
use Rattle.std.specs.Prelude.{◌^◌, ◌<◌}
use Rattle.std.proofs.Common.{ℕ, Bool, inl}
use Rattle.run_shows.specs.Given.SeizeWordsMem.{Mem}
use Rattle.run_shows.specs.Given.SeizeWorld.{World}
use Rattle.run_shows.specs.Given.TablesDeclared.node.Node.{Node}
use Rattle.run_shows.specs.Given.TablesDeclared.setting.Setting.{Setting}
use Rattle.run_shows.specs.Given.ResizeCopier.{copier_plan}
use Rattle.run_shows.specs.Given.ResizeNewTable.{new_table_plan}
use Rattle.run_shows.specs.Given.RawCall as call
use Rattle.run_shows.specs.Given.RawCall.{call_plan, plan_at}
use Rattle.run_shows.specs.Given.RawDeclared.machines.answer.Called.{Called}
use Rattle.run_shows.specs.Given.RawDeclared.machines.call.Calling.{Calling}
use Rattle.run_shows.specs.Given.RawDeclared.machines.call.Calling.TheVariants as at
use Rattle.run_shows.specs.Given.RawDeclared.machines.call.KeyCall.{KeyCall}
use Rattle.run_shows.specs.Given.RuleChart.{Chart}
use Rattle.run_shows.specs.Given.RuleWords.{Blocks}
use Rattle.run_shows.specs.Given.RuleInWorld.{IsMapIn}
use Rattle.owner_facts.specs.Given.LateLateCalls.{SupersededCalling, SupersededCallFacts}
use Rattle.owner_facts.specs.Given.PointsFactsCalls.{Unchanged}
use Rattle.owner_facts.specs.Given.PointsTold.{IsRowOfCall}
use Rattle.many_acts.specs.Looks.Sees.{HasSeen}
use Rattle.many_acts.proofs.Looks.Sees.Held.{AllSeen}
use Rattle.many_acts.proofs.Looks.Sees.Calls as calls
use Rattle.many_acts.proofs.Looks.Sees.Copiers.{left_copier_sees}
use Rattle.many_acts.proofs.Looks.Sees.Lookups.{left_lookup_sees}
use Rattle.many_acts.proofs.Looks.Sees.Plans.{seen_as}
use Rattle.many_acts.proofs.Looks.Sees.Tables.{left_first_sees}

module _ {K V Q : Type 0} (same : K → K → Bool) (hash : K → ℕ) (asks : Q → K → Bool) (fits : (k : K) → hash k < 2 ^ 64) (w : World (Node K V)) (slot caller : ℕ) (c : Chart K) (seen : Blocks)
    (setting : Setting) (Held : ℕ → Type 0) (within : AllSeen Held c seen) (map : IsMapIn same hash setting w c seen)
    (keys : K → Bool) (began : ℕ) (p : KeyCall K V Q) (facts : SupersededCallFacts same hash asks w caller setting c seen keys began p)
    (b : ℕ) (n : Mem (Node K V)) (end : KeyCall K V Q × Called (Node K V)) where
  abbrev Lasts : Type 0
  Lasts = calls.Lasts same hash asks fits w slot caller c seen setting Held within map keys Unchanged p facts.setting_is facts.code b n end

  lasts_at : (stands : Calling) → SupersededCalling same hash asks w caller setting c seen keys began p stands → (IsRowOfCall stands → ⊥) → HasSeen b w.memory (plan_at asks same hash p stands) n end → Lasts
  lasts_at (at.Looks l) (own, missing, there, q, asked, agree, looks) none saw =
      calls.looked_lasts same hash asks fits w slot caller c seen setting Held within map keys Unchanged p facts.setting_is facts.code b n end l
      (λ with next seen_so. left_lookup_sees same hash fits w slot caller c seen setting Held within map keys with p.hash began l looks b n next seen_so) saw
  lasts_at at.Probes (its, (t, j, trial, passed, left)) none saw =
      calls.probe_lasts same hash asks fits w slot caller c seen setting Held within map keys Unchanged p facts.setting_is facts.code b n end its t j trial saw
  lasts_at (at.Tries word new) (its, (t, j, trial, passed, left), may) none saw =
      calls.try_lasts same hash asks fits w slot caller c seen setting Held within map keys Unchanged p facts.setting_is facts.code b n end word new its t j trial saw
  lasts_at at.Nexts (its, t, entered, left) none saw =
      calls.next_lasts same hash asks fits w slot caller c seen setting Held within map keys Unchanged p facts.setting_is facts.code b n end t entered saw
  lasts_at (at.Firsts making) (its, stores, making_facts) none saw =
      let s = seen_as (call.first_made p) b w.memory (new_table_plan making) n end saw in
      inl (left_first_sees w slot caller c seen setting Held within began making b n s.0 making_facts s.2)
  lasts_at (at.Allocs making) (its, t, entered, left, making_facts) none saw =
      calls.alloc_lasts same hash asks fits w slot caller c seen setting Held within map keys Unchanged p facts.setting_is facts.code b n end making t making_facts saw
  lasts_at (at.Copies copier) (its, copier_facts) none saw =
      let s = seen_as (call.copied p) b w.memory (copier_plan hash copier) n end saw in
      inl (left_copier_sees same hash fits w slot caller c seen setting Held within map began copier copier_facts none b n s.0 s.2)
  lasts_at (at.Asks stands) point none saw =
      absurd (calls.none_asks same hash asks fits w slot caller c seen setting Held within map keys Unchanged p facts.setting_is facts.code b n end stands saw)
  lasts_at _ point none saw = absurd point

  pub left_call_lasts : (IsRowOfCall p.stands → ⊥) → HasSeen b w.memory (call_plan asks same hash p) n end → Lasts
  left_call_lasts none saw = lasts_at p.stands facts.point none saw
