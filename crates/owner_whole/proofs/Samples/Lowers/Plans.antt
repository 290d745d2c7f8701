-- Wrong plans beside the laws of steps. Each is stepped in a world of a few blocks, and the clause that refuses it is false of what it leaves.
use Rattle.std.specs.Prelude.{◌≡◌, ℕ, suc, ◌<◌, List, [], ◌∷◌, length, Option, ◌⊎◌, Some, true, false, eqb}
use Rattle.std.proofs.Common.{inl, inr, refl, ap, sym, subst, ◌∙◌, arith}
use Rattle.seize_words.specs.OneMemory.Mem.{Mem, Took, value_at, word_at, with_word}
use Rattle.seize_words.specs.OneMemory.Op.{Load, Store, Found, Stored}
use Rattle.seize_words.specs.declared.at.At.TheVariants.{Root}
use Rattle.seize_words.specs.OneMemory.Plan.{Plan, Do, Now, Steps}
use Rattle.seize_words.proofs.OneMemory.OneOwner.Operations.{loaded, stored}
use Rattle.seize.specs.World.{World, Row, Rests, Vacant, NoBlock}
use Rattle.seize.specs.declared.advance.Advance.{Advance as Stepped}
use Rattle.map_tables.specs.Trials.{first_trial, place_tried}
use Rattle.map_tables.specs.declared.node.Node.{Node}
use Rattle.map_tables.specs.declared.resize_mode.ResizeMode.TheVariants.{Incremental}
use Rattle.map_tables.specs.declared.table.Table.{Table}
use Rattle.map_tables.specs.declared.trial.Trial.{Trial}
use Rattle.map_measures.specs.Given.ResizeLookup.{going, looking}
use Rattle.map_measures.specs.Given.ResizeDeclared.lookup.Lookup.{Lookup}
use Rattle.map_measures.specs.Given.ResizeDeclared.lookup.Looking.{Looking}
use Rattle.map_measures.specs.Given.ResizeDeclared.lookup.Looking.TheVariants as looks
use Rattle.papaya_raw.specs.CallPoints.{entering, inserting}
use Rattle.papaya_raw.specs.declared.machines.answer.Called.{Called}
use Rattle.papaya_raw.specs.declared.machines.answer.Called.TheVariants as called
use Rattle.papaya_raw.specs.declared.machines.call.Calling.{Calling}
use Rattle.papaya_raw.specs.declared.machines.call.Calling.TheVariants as at
use Rattle.papaya_raw.specs.declared.machines.call.KeyCall.{KeyCall}
use Rattle.papaya_raw.specs.declared.machines.machine.Machine.TheVariants as kinds
use Rattle.map_measures.specs.Given.PointsMeasures.{IsBelow}
use Rattle.map_measures.specs.Given.PointsMeasuresLooks.{LoadLeads, HasLooked, begun, further, entered}
use Rattle.owner_facts.proofs.Given.LateSamples.Plans.FewBlocks.{hash, setting, chart, memory, new}
use Rattle.map_measures.specs.Given.RuleChart.{Copying, Holds}
use Rattle.map_measures.specs.Given.CallersRows.{row_of}
use Rattle.owner_facts.specs.Given.CallersTogether.{CallOnKey, OnKey, no_blocks, no_sight}
use Rattle.owner_facts.specs.Given.FinishesMaps.{Standing}
use Rattle.map_measures.specs.Given.SeizeActsWaits.{SettlesOn}
use Rattle.map_measures.specs.Waits.Waits.{IsBeingCopied, CallAwaits, AnotherHolds}
use Rattle.map_tables.specs.Chunks.{is_incremental}
use Rattle.owner_whole.specs.Lowers.Numbers.{row_within, numbers_of}
use Rattle.owner_whole.specs.Lowers.Waits.{AwaitsACopying, AwaitsItsPair}

same_key : (k : ℕ) → Some 9 ≡ Some k → k ≡ 9
same_key k e = cc e

-- no numbers are below themselves
not_below : (xs : List ℕ) → IsBelow xs xs → ⊥
not_below [] h = h
not_below (x ∷ xs) (inl l) = omega (arith, l)
not_below (x ∷ xs) (inr h) = not_below xs h.1

module _ {K V Q : Type 0} where
  -- A call that waits at its try, whatever stands there.
  abbrev always_waits : KeyCall K V Q → Plan (Node K V) (KeyCall K V Q × Called (Node K V))
  always_waits p = Do (Load (place_tried p.trial)) (λ out. Now (p, called.Waits))

  -- Where no pair is being copied at its place, it has no reason.
  waits_for_nothing : (s : Standing K) (w : World (Node K V)) (i slot : ℕ) (u : CallOnKey K V Q) (p : KeyCall K V Q) → u.call ≡ p → p.stands ≡ at.Probes
      → (IsBeingCopied s.chart p.trial.table.turn p.trial.probe.i → ⊥) → AwaitsACopying s (OnKey u) ⊎ AnotherHolds w i (row_within slot (kinds.Key u.call)) → ⊥
  waits_for_nothing s w i slot u p its is none (inl h) =
      none (subst (λ (x : Calling). CallAwaits s.chart (is_incremental s.setting.mode) p x) is (subst (λ (x : KeyCall K V Q). CallAwaits s.chart (is_incremental s.setting.mode) x x.stands) its h.0)).1
  waits_for_nothing s w i slot u p its is none (inr h) = subst (λ (x : Calling). SettlesOn h.0 (row_of slot x)) is (subst (λ (x : KeyCall K V Q). SettlesOn h.0 (row_of slot x.stands)) its h.1)

  -- A call that reads the word of its try again and again, and goes on.
  abbrev turns_on_a_word : KeyCall K V Q → Plan (Node K V) (KeyCall K V Q × Called (Node K V))
  turns_on_a_word p = Do (Load (place_tried p.trial)) (λ out. Now (p, called.Goes))

  -- It lowers no number: the map stands as it stood.
  lowers_nothing : (left : Mem (Node K V) → Row → ℕ) (slot : ℕ) (s : Standing K) (p : KeyCall K V Q) (m m2 : Mem (Node K V)) (end : KeyCall K V Q × Called (Node K V))
      → Steps Took value_at m (turns_on_a_word p) m2 end → IsBelow (numbers_of left slot s m2 (kinds.Key end.0)) (numbers_of left slot s m (kinds.Key p)) → ⊥
  lowers_nothing left slot s p m m2 end st below =
      let l = loaded m (λ out. Now (p, called.Goes)) (place_tried p.trial) m2 end st in
      not_below (numbers_of left slot s m (kinds.Key p))
      (subst (λ (x : Mem (Node K V)). IsBelow (numbers_of left slot s x (kinds.Key p)) (numbers_of left slot s m (kinds.Key p))) l.2
      (subst (λ (x : KeyCall K V Q × Called (Node K V)). IsBelow (numbers_of left slot s m2 (kinds.Key x.0)) (numbers_of left slot s m (kinds.Key p))) l.3 below))

-- A lookup that reads each word twice: after its first load of one it is at the same try.
abbrev reads_twice : {K V : Type 0} → Lookup → Trial → Plan (Node K V) (Lookup × Stepped (Option ℕ))
reads_twice l trial = Do (Load (place_tried trial)) (λ out. Now (going l (looks.Probes trial)))

-- A lookup that has entered one table has made as many loads there as it has passed tries.
abbrev LoadsOnce : Looking → List Table → ℕ → Type 0
LoadsOnce looks.Roots tables loads = (tables ≡ []) × (loads ≡ 0)
LoadsOnce (looks.Probes trial) tables loads = (0 < length tables) × (length tables ≡ 1 → loads ≡ suc trial.probe.len)
LoadsOnce (looks.Nexts table) tables loads = 0 < length tables
LoadsOnce (looks.Over found) tables loads = Unit {0}

once : (here there : Looking) (tables : List Table) (loads : ℕ) → LoadsOnce here tables loads → LoadLeads here there → LoadsOnce there (entered here there tables) (suc loads)
once looks.Roots (looks.Probes trial) tables loads h leads =
    (omega arith, λ one. let none = h.1 in omega (arith, none, leads))
once looks.Roots looks.Roots tables loads h leads = absurd leads
once looks.Roots (looks.Nexts table) tables loads h leads = absurd leads
once looks.Roots (looks.Over found) tables loads h leads = tt
once (looks.Probes trial) (looks.Probes other) tables loads h leads = (h.0, λ one. let was = h.1 one in let next = leads.1 in omega (arith, was, next))
once (looks.Probes trial) looks.Roots tables loads h leads = absurd leads
once (looks.Probes trial) (looks.Nexts table) tables loads h leads = h.0
once (looks.Probes trial) (looks.Over found) tables loads h leads = tt
once (looks.Nexts table) (looks.Probes trial) tables loads h leads = (omega arith, λ one. absurd (omega (arith, one, h)))
once (looks.Nexts table) looks.Roots tables loads h leads = absurd leads
once (looks.Nexts table) (looks.Nexts other) tables loads h leads = absurd leads
once (looks.Nexts table) (looks.Over found) tables loads h leads = tt
once (looks.Over found) looks.Roots tables loads h leads = absurd leads
once (looks.Over found) (looks.Probes trial) tables loads h leads = absurd leads
once (looks.Over found) (looks.Nexts table) tables loads h leads = absurd leads
once (looks.Over found) (looks.Over other) tables loads h leads = tt

all_once : (here : Looking) (tables : List Table) (loads : ℕ) → HasLooked here tables loads → LoadsOnce here tables loads
all_once here tables loads begun = (refl, refl)
all_once here tables loads (further from there before fewer looked leads) = once from there before fewer (all_once from before fewer looked) leads

-- The world of a few blocks: the second table is the root, and its places are empty.
abbrev few : Standing ℕ
few = record { setting = setting; hash = hash; chart = chart; blocks = no_blocks; sights = λ s. no_sight }

abbrev world : World (Node ℕ ℕ)
world = record { memory = memory; row = λ i. Rests; uses = λ s. Vacant; hand = λ b. NoBlock; log = [] }

abbrev insertion : KeyCall ℕ ℕ ℕ
insertion = (entering (inserting setting 0 7 9) new).0

abbrev its_trial : Trial
its_trial = first_trial new 0

waits_steps : (m : Mem (Node ℕ ℕ)) × (end : KeyCall ℕ ℕ ℕ × Called (Node ℕ ℕ)) × Steps Took value_at memory (always_waits insertion) m end
waits_steps = (memory, (insertion, called.Waits), (Found 0, (refl, refl), refl))

waits_is_refused : (u : CallOnKey ℕ ℕ ℕ) → u.call ≡ insertion → (i slot : ℕ) → AwaitsACopying few (OnKey u) ⊎ AnotherHolds world i (row_within slot (kinds.Key u.call)) → ⊥
waits_is_refused u its i slot = waits_for_nothing few world i slot u insertion its refl (λ copied. let e = copied.2 in cc e)

-- While all that is there is being copied, but is a pair of another key, it has none either.
abbrev busy : Standing ℕ
busy = record few { chart = record chart { place = λ t i. Holds 0 Copying false; key = λ n. Some 9; current = λ n. true } }

another_is_copied : CallAwaits busy.chart (is_incremental busy.setting.mode) insertion at.Probes
another_is_copied = (refl, (0, false, refl))

another_is_refused : (u : CallOnKey ℕ ℕ ℕ) → u.call ≡ insertion → ((k : ℕ) → u.keys k ≡ eqb 7 k) → (i slot : ℕ) → AwaitsACopying busy (OnKey u) ⊎ AnotherHolds world i (row_within slot (kinds.Key u.call)) → ⊥
another_is_refused u its keys i slot (inl h) = by (subst (λ (x : Calling). AwaitsItsPair busy u x) (ap (λ (x : KeyCall ℕ ℕ ℕ). x.stands) its) h.1)
  where
    by : AwaitsItsPair busy u at.Probes → ⊥
    by (n, borrowed, stands, current, k, has, asked) =
        let nine : k ≡ 9 = same_key k has in
        let told : eqb 7 9 ≡ true = sym (keys 9) ∙ ap u.keys (sym nine) ∙ asked in cc told
another_is_refused u its keys i slot (inr h) = subst (λ (x : KeyCall ℕ ℕ ℕ). SettlesOn h.0 (row_of slot x.stands)) its h.1

-- One that writes a word each time that it waits, for whatever reason.
abbrev waits_writing : Plan (Node ℕ ℕ) (KeyCall ℕ ℕ ℕ × Called (Node ℕ ℕ))
waits_writing = Do (Store (Root 0) 0) (λ out. Now (insertion, called.Waits))

writing_steps : (m : Mem (Node ℕ ℕ)) × (end : KeyCall ℕ ℕ ℕ × Called (Node ℕ ℕ)) × Steps Took value_at memory waits_writing m end
writing_steps = (with_word memory (Root 0) 0, (insertion, called.Waits), (Stored, (tt, refl), refl))

writing_is_refused : (m : Mem (Node ℕ ℕ)) (end : KeyCall ℕ ℕ ℕ × Called (Node ℕ ℕ)) → Steps Took value_at memory waits_writing m end → m ≡ memory → ⊥
writing_is_refused m end st is =
    let l = stored memory (λ out. Now (insertion, called.Waits)) (Root 0) 0 m end st in
    let root : Some 0 ≡ Some 6144 = ap (λ (x : Mem (Node ℕ ℕ)). word_at x (Root 0)) (sym l.0 ∙ is) in cc root

turns_steps : (m : Mem (Node ℕ ℕ)) × (end : KeyCall ℕ ℕ ℕ × Called (Node ℕ ℕ)) × Steps Took value_at memory (turns_on_a_word insertion) m end
turns_steps = (memory, (insertion, called.Goes), (Found 0, (refl, refl), refl))

turns_is_refused : (left : Mem (Node ℕ ℕ) → Row → ℕ) (slot : ℕ) (m : Mem (Node ℕ ℕ)) (end : KeyCall ℕ ℕ ℕ × Called (Node ℕ ℕ)) → Steps Took value_at memory (turns_on_a_word insertion) m end
    → IsBelow (numbers_of left slot few m (kinds.Key end.0)) (numbers_of left slot few memory (kinds.Key insertion)) → ⊥
turns_is_refused left slot m end st = lowers_nothing left slot few insertion memory m end st

-- The lookup has read the root, and is at its first try.
abbrev lookup : Lookup
lookup = record (looking 0 (Incremental 64) 0) { stands = looks.Probes its_trial }

has_read_the_root : HasLooked (looks.Probes its_trial) (new ∷ []) 1
has_read_the_root = further looks.Roots (looks.Probes its_trial) [] 0 begun refl

twice_steps : (m : Mem (Node ℕ ℕ)) × (end : Lookup × Stepped (Option ℕ)) × Steps Took value_at memory (reads_twice lookup its_trial) m end
twice_steps = (memory, going lookup (looks.Probes its_trial), (Found 0, (refl, refl), refl))

twice_is_refused : (m : Mem (Node ℕ ℕ)) (end : Lookup × Stepped (Option ℕ)) → Steps Took value_at memory (reads_twice lookup its_trial) m end
    → HasLooked end.0.stands (entered (looks.Probes its_trial) end.0.stands (new ∷ [])) 2 → ⊥
twice_is_refused m end st looked =
    let l = loaded memory (λ out. Now (going lookup (looks.Probes its_trial))) (place_tried its_trial) m end st in
    let at_it = subst (λ (x : Lookup × Stepped (Option ℕ)). HasLooked x.0.stands (entered (looks.Probes its_trial) x.0.stands (new ∷ [])) 2) l.3 looked in
    let one : 2 ≡ 1 = (all_once (looks.Probes its_trial) (new ∷ []) 2 at_it).1 refl in cc one
