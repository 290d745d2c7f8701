-- A call in a table that the root has left keeps its own block, and no value becomes another one.
use Rattle.std.proofs.Common.{◌≡◌, ℕ, ◌/◌, suc, Bool, Some, None, inl, inr, refl, ap, sym, subst, ◌∙◌}
use Rattle.map_facts.specs.Given.SeizeWordsDeclared.at.At.TheVariants.{Word}
use Rattle.map_facts.specs.Given.SeizeWordsMem.{Mem, Can, Took, value_at}
use Rattle.map_facts.specs.Given.SeizeWordsPlan.{May, Steps}
use Rattle.map_facts.proofs.Given.SeizeWordsOneOwner.Operations.{taken}
use Rattle.map_facts.specs.Given.SeizeWorld.{World}
use Rattle.map_facts.specs.Given.SeizeDeclared.advance.Advance.{Advance}
use Rattle.map_facts.proofs.Given.SeizeRuleRows.Leaving.{steps_back}
use Rattle.map_facts.specs.Given.TablesDeclared.node.Node.{Node}
use Rattle.map_facts.specs.Given.TablesDeclared.setting.Setting.{Setting}
use Rattle.map_facts.specs.Given.TablesDeclared.table.Table.{Table}
use Rattle.map_facts.specs.Given.TablesDeclared.table_words.TheConstants.{NEXT}
use Rattle.map_facts.specs.Given.ResizeNewTable.{new_table_plan, other}
use Rattle.map_facts.specs.Given.ResizeNewTable as new
use Rattle.map_facts.specs.Given.ResizeDeclared.copier.Copier.{Copier}
use Rattle.map_facts.specs.Given.ResizeDeclared.copier.Copying.{Copying as Point}
use Rattle.map_facts.specs.Given.ResizeDeclared.copier.Copying.TheVariants as copies
use Rattle.map_facts.specs.Given.ResizeDeclared.new_table.NewTable.{NewTable}
use Rattle.map_facts.specs.Given.ResizeDeclared.new_table.Making.{Making}
use Rattle.map_facts.specs.Given.ResizeDeclared.new_table.Making.TheVariants as makes
use Rattle.map_facts.specs.Given.RawCall.{first_made, plan_at}
use Rattle.map_facts.specs.Given.RawDeclared.machines.answer.Called.{Called}
use Rattle.map_facts.specs.Given.RawDeclared.machines.asking.Asking.{Asking}
use Rattle.map_facts.specs.Given.RawDeclared.machines.asking.Asking.TheVariants as asking
use Rattle.map_facts.specs.Given.RawDeclared.machines.asking.Takes.{Takes}
use Rattle.map_facts.specs.Given.RawDeclared.machines.asking.Takes.TheVariants as takes
use Rattle.map_facts.specs.Given.RawDeclared.machines.call.KeyCall.{KeyCall}
use Rattle.map_facts.specs.Given.RawDeclared.machines.call.Calling.{Calling}
use Rattle.map_facts.specs.Given.RawDeclared.machines.call.Calling.TheVariants as at
use Rattle.map_facts.specs.Given.RuleChart.{Chart}
use Rattle.map_facts.specs.Given.RuleWords.{Blocks}
use Rattle.map_facts.specs.FactsCalls.{Unchanged, MayStore, holding}
use Rattle.map_facts.specs.Told.{IsRowOfCall}
use Rattle.map_facts.proofs.Calls.Holdings.{never_missing, never_there, never_told}
use Rattle.map_facts.proofs.Values.Copiers.{MakesTable}
use Rattle.map_facts.proofs.Values.Left.{leaves_taken}
use Rattle.map_facts.proofs.Values.Own.{IsDropping, NoneMoved, SeeksOn, asks_again}
use Rattle.map_facts.proofs.Values.Sought.{IsSought, GoesSeeking}
use Rattle.map_facts.proofs.Values.Steps.{SoughtOn, first_so, looks_on, probes_on, tries_on, nexts_on, allocs_on, copies_on}
use Rattle.map_facts_late.specs.LateCalls.{SupersededFirst, SupersededAsking, SupersededCalling}
use Rattle.map_facts_late.specs.LateCopies.{SupersededCopying}

-- a call that never asks stands at no question there
module _ {K V Q : Type 0} (same : K → K → Bool) (hash : K → ℕ) (asks : Q → K → Bool) (w : World (Node K V)) (caller : ℕ) (setting : Setting) (c : Chart K) (blocks : Blocks)
    (keys : K → Bool) (began : ℕ) (p : KeyCall K V Q) where
  pub late_never_asks : MayStore p.replies.takes p.there p.missing → p.replies.takes ≡ takes.Nothing → (asks_at : Asking) → SupersededAsking same hash asks w caller setting c blocks keys began p asks_at → ⊥
  late_never_asks may never (asking.Absent gap) f = never_missing p.there p.missing (subst (λ (x : Takes). MayStore x p.there p.missing) never may) f.1
  late_never_asks may never (asking.Present word) f = never_there p.there p.missing (subst (λ (x : Takes). MayStore x p.there p.missing) never may) f.1
  late_never_asks may never (asking.Fills word) f = never_told p.missing (sym (ap (λ (x : Takes). holding x p.missing) never) ∙ f.1)
  late_never_asks may never (asking.GivesUp word) f = never_told p.missing (sym (ap (λ (x : Takes). holding x p.missing) never) ∙ f.1)

module _ {K V Q : Type 0} (same : K → K → Bool) (hash : K → ℕ) (asks : Q → K → Bool) (w : World (Node K V)) (caller : ℕ) (setting : Setting) (c : Chart K) (blocks : Blocks)
    (keys : K → Bool) (began : ℕ) (p : KeyCall K V Q) (m2 : Mem (Node K V)) (e : KeyCall K V Q × Called (Node K V)) where
  abbrev On : Calling → Type 0
  On = SeeksOn same hash asks w caller setting c blocks keys Unchanged p m2 e

  abbrev Moved : Type 0
  Moved = NoneMoved same hash asks w caller setting c blocks keys Unchanged p m2 e

  on : (stands : Calling) → SoughtOn same hash asks w caller setting c blocks p m2 e stands → On stands
  on stands h = inl (h.0, h.1.unmoved)

  -- its table came too late: it is taken away again
  first_moved : (making : NewTable) (stands : Making) → SupersededFirst w caller setting c blocks began stands → (end : NewTable × Advance Table) → Steps Took value_at w.memory (new.plan_at making stands) m2 end → Moved
  first_moved making (makes.Drops table found) f end s =
      let d = taken w.memory (λ out. other making found) (table.link / 2048) m2 end s in
      (leaves_taken w.memory m2 (λ b. b ≡ table.link / 2048) (λ b. ⊥) (λ b. ⊥) (table.link / 2048) d.0 d.1 d.2 refl (λ b h. h) (λ b h. h)).unmoved
  first_moved making (makes.Over table) f end s = λ b x y before after. (let is = subst (λ (m : Mem (Node K V)). value_at m b ≡ Some y) s.0 after in cc (before, is))
  first_moved making (makes.Sums before reason sum) f end s = absurd f
  first_moved making (makes.Makes table) f end s = absurd f
  first_moved making (makes.Promotes table) f end s = absurd f
  first_moved making (makes.Links table) f end s = absurd f
  first_moved making (makes.Refused fault) f end s = absurd f

  first_on : (making : NewTable) → SupersededFirst w caller setting c blocks began making.stands → Steps Took value_at w.memory (plan_at asks same hash p (at.Firsts making)) m2 e → On (at.Firsts making)
  first_on making f s =
      let d = steps_back (first_made p) w.memory m2 (new_table_plan making) e s in
      inl (subst (GoesSeeking p) (sym d.2) (first_so p d.0), first_moved making making.stands f d.0 d.1)

  -- the table that a late copier makes
  late_makes : (copier : Copier) (stands : Point) → SupersededCopying same hash w caller setting c blocks began copier stands → MakesTable w caller setting c blocks stands
  late_makes copier (copies.Grows word code making) f = absurd f
  late_makes copier (copies.Remakes making) f = (_, _, f.3)
  late_makes copier _ f = tt

  pub late_seeks_on : (stands : Calling) → p.stands ≡ stands → IsSought stands → (IsDropping stands → ⊥) → SupersededCalling same hash asks w caller setting c blocks keys began p stands → (IsRowOfCall stands → ⊥)
      → May Can Took value_at w.memory (plan_at asks same hash p stands) → Steps Took value_at w.memory (plan_at asks same hash p stands) m2 e → On stands
  late_seeks_on (at.Looks l) here so none k row may s = on (at.Looks l) (looks_on same hash asks w caller setting c blocks p m2 e l k.0 may s)
  late_seeks_on at.Probes here so none k row may s = on at.Probes (probes_on same hash asks w caller setting c blocks p m2 e may s)
  late_seeks_on (at.Tries word new) here so none k row may s = elim (tries_on same hash asks w caller setting c blocks p m2 e word new may s) as (λ _. On (at.Tries word new)) [
    | inl h ↦ on (at.Tries word new) h
    | inr h ↦ inr (word, new, refl, h.0, h.1)
  ]
  late_seeks_on at.Nexts here so none k row may s = on at.Nexts (nexts_on same hash asks w caller setting c blocks p m2 e may s)
  late_seeks_on (at.Firsts making) here so none k row may s = first_on making k.2.point s
  late_seeks_on (at.Allocs making) here so none k row may s =
      on (at.Allocs making) (allocs_on same hash asks w caller setting c blocks p m2 e (Word (blocks.table k.1) NEXT) (suc k.1) making k.4 may s)
  late_seeks_on (at.Copies copier) here so none k row may s = on (at.Copies copier) (copies_on same hash asks w caller setting c blocks p m2 e copier row (late_makes copier copier.stands k.1.point) may s)
  late_seeks_on at.Makes here so none k row may s = absurd k
  late_seeks_on at.Roots here so none k row may s = absurd k
  late_seeks_on (at.Helps copier goal) here so none k row may s = absurd k
  late_seeks_on (at.Counts removed) here so none k row may s = absurd k
  late_seeks_on (at.Disposes d answer) here so none k row may s = absurd k
  late_seeks_on (at.Asks (asking.Absent gap)) here so none k row may s = asks_again same hash asks w caller setting c blocks keys Unchanged p m2 e (asking.Absent gap) None here s
  late_seeks_on (at.Asks (asking.Present word)) here so none k row may s =
      asks_again same hash asks w caller setting c blocks keys Unchanged p m2 e (asking.Present word) (Some word) here s
  late_seeks_on (at.Asks (asking.Fills word)) here so none k row may s = absurd so
  late_seeks_on (at.Asks (asking.GivesUp word)) here so none k row may s = absurd (none tt)
  late_seeks_on (at.Drops end) here so none k row may s = absurd k
  late_seeks_on (at.Over end) here so none k row may s = absurd k
