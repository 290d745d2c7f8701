-- A call that seeks keeps its own block, and no value becomes another one, until it changes the map.
use Rattle.std.specs.Prelude.{Option, Some, None}
use Rattle.std.proofs.Common.{◌≡◌, ℕ, suc, Bool, ◌⊎◌, inl, inr, refl, ap, sym, subst, ◌∙◌}
use Rattle.map_rule.specs.Given.SeizeWordsDeclared.at.At.TheVariants.{Root, Word}
use Rattle.map_rule.specs.Given.SeizeWordsMem.{Mem, Can, Took, value_at}
use Rattle.map_rule.specs.Given.SeizeWordsPlan.{Turn, Now, May, Steps}
use Rattle.papaya_raw.specs.Given.SeizeWorld.{World}
use Rattle.papaya_raw.specs.Given.TablesDeclared.node.Node.{Node}
use Rattle.papaya_raw.specs.Given.TablesDeclared.setting.Setting.{Setting}
use Rattle.papaya_raw.specs.Given.TablesDeclared.table_words.TheConstants.{NEXT}
use Rattle.papaya_raw.specs.Call.{plan_at}
use Rattle.papaya_raw.specs.CallPoints.{changed}
use Rattle.papaya_raw.specs.declared.machines.answer.Called.{Called}
use Rattle.papaya_raw.specs.declared.machines.answer.Called.TheVariants.{Asks}
use Rattle.papaya_raw.specs.declared.machines.asking.Asking.{Asking}
use Rattle.papaya_raw.specs.declared.machines.asking.Asking.TheVariants as asking
use Rattle.papaya_raw.specs.declared.machines.call.KeyCall.{KeyCall}
use Rattle.papaya_raw.specs.declared.machines.call.Calling.{Calling}
use Rattle.papaya_raw.specs.declared.machines.call.Calling.TheVariants as at
use Rattle.map_rule.specs.Chart.{Chart}
use Rattle.map_rule.specs.Words.{Blocks}
use Rattle.map_facts.specs.FactsCalls.{Change, CallingFacts}
use Rattle.map_facts.specs.Told.{IsRowOfCall}
use Rattle.map_facts.proofs.Values.Copiers.{makes_table_blocking}
use Rattle.map_facts.proofs.Values.Kept.{SameValues}
use Rattle.map_facts.proofs.Values.Sought.{IsSought, IsAhead, GoesSeeking}
use Rattle.map_facts.proofs.Values.Steps.{SoughtOn, looks_on, roots_on, probes_on, tries_on, nexts_on, firsts_on, allocs_on, helps_on, copies_on}

-- it is about to give its own block up
abbrev pub IsDropping : Calling → Type 0
IsDropping (at.Drops end) = Unit {0}
IsDropping (at.Asks (asking.GivesUp word)) = Unit {0}
IsDropping _ = ⊥

module _ {K V Q : Type 0} (same : K → K → Bool) (hash : K → ℕ) (asks : Q → K → Bool) (w : World (Node K V)) (caller : ℕ) (setting : Setting) (c : Chart K) (blocks : Blocks)
    (keys : K → Bool) (change : Change) (p : KeyCall K V Q) (m2 : Mem (Node K V)) (e : KeyCall K V Q × Called (Node K V)) where
  -- no value has become another one
  abbrev pub NoneMoved : Type 0
  NoneMoved = (b : ℕ) (x y : Node K V) → value_at w.memory b ≡ Some x → value_at m2 b ≡ Some y → x ≡ y

  -- it seeks on, or has changed the map
  abbrev pub SeeksOn : Calling → Type 0
  SeeksOn stands =
      (GoesSeeking p e × NoneMoved) ⊎ ((word : ℕ) × (new : ℕ) × (stands ≡ at.Tries word new) × SameValues w.memory m2 × (e ≡ changed p word new))

  on : (stands : Calling) → SoughtOn same hash asks w caller setting c blocks p m2 e stands → SeeksOn stands
  on stands h = inl (h.0, h.1.unmoved)

  -- it asks again
  pub asks_again : (asking : Asking) (asked : Option ℕ) → p.stands ≡ at.Asks asking → Steps Took value_at w.memory (Turn (Now (p, Asks asked))) m2 e → SeeksOn (at.Asks asking)
  asks_again asking asked here s =
      inl (
        subst (λ (x : KeyCall K V Q × Called (Node K V)). GoesSeeking p x) (sym s.1) (refl, subst IsAhead (sym here) tt),
        λ b x y before after. some_same (sym before ∙ ap (λ (m : Mem (Node K V)). value_at m b) (sym s.0) ∙ after),
      )
    where
      some_same : {x y : Node K V} → Some x ≡ Some y → x ≡ y
      some_same k = cc k

  pub seeks_on : (stands : Calling) → p.stands ≡ stands → IsSought stands → (IsDropping stands → ⊥) → CallingFacts same hash asks w caller setting c blocks keys change p stands → (IsRowOfCall stands → ⊥)
      → May Can Took value_at w.memory (plan_at asks same hash p stands) → Steps Took value_at w.memory (plan_at asks same hash p stands) m2 e → SeeksOn stands
  seeks_on at.Makes here so none k row may s = absurd so
  seeks_on (at.Looks l) here so none k row may s = on (at.Looks l) (looks_on same hash asks w caller setting c blocks p m2 e l k.0 may s)
  seeks_on at.Roots here so none k row may s = on at.Roots (roots_on same hash asks w caller setting c blocks p m2 e may s)
  seeks_on at.Probes here so none k row may s = on at.Probes (probes_on same hash asks w caller setting c blocks p m2 e may s)
  seeks_on (at.Tries word new) here so none k row may s = elim (tries_on same hash asks w caller setting c blocks p m2 e word new may s) as (λ _. SeeksOn (at.Tries word new)) [
    | inl h ↦ on (at.Tries word new) h
    | inr h ↦ inr (word, new, refl, h.0, h.1)
  ]
  seeks_on (at.Counts removed) here so none k row may s = absurd so
  seeks_on at.Nexts here so none k row may s = on at.Nexts (nexts_on same hash asks w caller setting c blocks p m2 e may s)
  seeks_on (at.Firsts making) here so none k row may s = on (at.Firsts making) (firsts_on same hash asks w caller setting c blocks p m2 e (Root setting.root) 0 making k.2 may s)
  seeks_on (at.Allocs making) here so none k row may s =
      on (at.Allocs making) (allocs_on same hash asks w caller setting c blocks p m2 e (Word (blocks.table k.1) NEXT) (suc k.1) making k.3 may s)
  seeks_on (at.Helps copier goal) here so none k row may s = on (at.Helps copier goal) (helps_on same hash asks w caller setting c blocks p m2 e copier row goal k.6 may s)
  seeks_on (at.Copies copier) here so none k row may s = on (at.Copies copier) (copies_on same hash asks w caller setting c blocks p m2 e copier row (makes_table_blocking w caller setting c blocks same hash copier copier.stands k.2.point) may s)
  seeks_on (at.Asks (asking.Absent gap)) here so none k row may s = asks_again (asking.Absent gap) None here s
  seeks_on (at.Asks (asking.Present word)) here so none k row may s = asks_again (asking.Present word) (Some word) here s
  seeks_on (at.Asks (asking.Fills word)) here so none k row may s = absurd so
  seeks_on (at.Asks (asking.GivesUp word)) here so none k row may s = absurd (none tt)
  seeks_on (at.Disposes d answer) here so none k row may s = absurd so
  seeks_on (at.Drops end) here so none k row may s = absurd (none tt)
  seeks_on (at.Over end) here so none k row may s = absurd so
