-- A lookup comes to its end, and takes its steps over a memory that is lent.
use Rattle.std.specs.Prelude.{◌≡◌, ◌≢◌, ◌⊎◌, ℕ, ◌<◌, Bool, Option, List, length}
use Rattle.std.proofs.Common.{refl, sym, ◌∙◌, ap, subst, arith, inl, inr}
use Rattle.seize_words.specs.OneMemory.Mem.{Mem, Can, Took, Gives, value_at}
use Rattle.seize_words.specs.OneMemory.Op.{Op, Out, Load}
use Rattle.seize_words.specs.OneMemory.Plan.{Then, Do, Turn, Now, May, MaySee, Steps, Ends as Comes}
use Rattle.seize_words.specs.declared.at.At.{At}
use Rattle.seize_words.specs.declared.fault.Fault.{Fault}
use Rattle.seize_words.specs.declared.lent.Lent.{Lent}
use Rattle.seize.specs.declared.advance.Advance.{Advance}
use Rattle.seize.specs.declared.advance.Advance.TheVariants as progress
use Rattle.map_tables.specs.declared.node.Node.{Node}
use Rattle.map_tables.specs.declared.resize_mode.ResizeMode.{ResizeMode}
use Rattle.map_tables.specs.declared.setting.Setting.{Setting}
use Rattle.map_measures.specs.Given.ResizeLookup.{lookup_plan, plan_at, link_found, word_found}
use Rattle.map_tables.specs.Trials.{place_tried}
use Rattle.map_tables.specs.TablePlaces.{at_word}
use Rattle.map_tables.specs.declared.table_words.TheConstants.{NEXT}
use Rattle.seize_words.specs.declared.at.At.TheVariants.{Root}
use Rattle.map_measures.specs.Given.ResizeDeclared.lookup.Lookup.{Lookup}
use Rattle.map_measures.specs.Given.ResizeDeclared.lookup.Looking.{Looking}
use Rattle.map_measures.specs.Given.ResizeDeclared.lookup.Looking.TheVariants as at
use Rattle.map_measures.specs.Given.RuleChart.{Chart}
use Rattle.map_measures.specs.Given.RuleInWorld.{SameBlocks}
use Rattle.map_measures.specs.Given.RuleLasts.{Lasts}
use Rattle.map_measures.specs.Given.RuleMaps.{spot_of}
use Rattle.map_measures.specs.Given.RuleWords.{Blocks}
use Rattle.map_tables.specs.Chunks.{is_incremental}
use Rattle.map_measures.specs.Given.PointsFactsLooks.{LookingFacts}
use Rattle.map_measures.specs.Given.PointsMeasures.{IsBelow, EndsFrom, ends}
use Rattle.map_measures.specs.Given.PointsMeasuresLooks.{number_of_lookup, number_at_looking}
use Rattle.owner_facts.specs.Given.PointsTold.{LookupOutcome}
use Rattle.owner_facts.proofs.Given.PointsCalls.StepsTold.{lookups_tell}
use Rattle.map_measures.proofs.Given.PointsDescents.{descents_end}
use Rattle.map_measures.proofs.Falls.Onward.{Onward}
use Rattle.map_measures.proofs.Falls.Stands.{LookingStands}
use Rattle.map_measures.proofs.Falls.Within.Lookups.{looked_on}
use Rattle.owner_whole.specs.Strides.Ending.{Continues, Ends, all_end}
use Rattle.owner_whole.specs.Strides.Looking.{LooksIn}
use Rattle.owner_whole.specs.Strides.Within.{IsLeast, within}
use Rattle.owner_whole.proofs.Strides.Runs.Steps.{less}

same_blocks : {K : Type 0} (c : Chart K) (blocks : Blocks) → SameBlocks c blocks blocks
same_blocks c blocks = record { tables = λ t l k. (refl, k); pairs = λ n l k. (refl, k); tables_back = λ t l k. k; pairs_back = λ n l k. k }

lasts_so : {K : Type 0} (same : K → K → Bool) (spot : ℕ → K → ℕ → ℕ) (incremental : Bool) (c : Chart K) → Lasts same spot incremental c c
lasts_so same spot incremental c = record {
  past = omega arith;
  first = omega arith;
  lens = λ t l. (refl, refl);
  stored = omega arith;
  keys = λ n l. refl;
  taken = λ t i is. is;
  others = λ t i k is e. e;
  copied = λ t i n borrowed e. e;
  settled = λ t i e. e;
  shut = λ t k e l s. s;
  frozen = λ t i e is. refl;
}

-- the setting of a map, as far as its lookups know it
abbrev setting_of : ResizeMode → ℕ → Setting
setting_of mode root = record { slot = 0; batch_size = 0; root = root; mode = mode; counter = 0; mask = 0; initial = 0 }

module _ {K V : Type 0} (same : K → K → Bool) (hash : K → ℕ) (keys : K → Bool) (m : Mem (Node K V)) (c : Chart K) (blocks : Blocks) (begun : Lookup) where
  abbrev LooksHere : Lookup → Type 0
  LooksHere l = LooksIn same hash keys m c blocks begun l

  abbrev TellsHere : Lookup × Advance (Option ℕ) → Type 0
  TellsHere = LookupOutcome same hash begun.mode begun.root keys begun.hash c blocks

  pub looks_may : (l : Lookup) → LooksHere l → May Can Took value_at m (lookup_plan keys l)
  looks_may l h = (lookups_tell V same hash h.lawful begun.mode begun.root keys begun.hash m c blocks l h.class h.map h.facts).0

  pub looks_tell : (l : Lookup) → LooksHere l → (m2 : Mem (Node K V)) (end : Lookup × Advance (Option ℕ)) → Steps Took value_at m (lookup_plan keys l) m2 end → (m2 ≡ m) × TellsHere end
  looks_tell l h m2 end s = (lookups_tell V same hash h.lawful begun.mode begun.root keys begun.hash m c blocks l h.class h.map h.facts).1 m2 end s

  on_here : (l : Lookup) → LooksHere l → (l2 : Lookup) → TellsHere (l2, progress.Goes) → LooksHere l2
  on_here l h l2 facts = record { lawful = h.lawful; class = h.class; map = h.map; facts = facts }

  onward : (l : Lookup) → LooksHere l → Onward same hash (setting_of begun.mode begun.root) m c blocks m c blocks
  onward l h = record { map = h.map; map2 = h.map; blocks_same = same_blocks c blocks; lasts = lasts_so same (spot_of hash) (is_incremental begun.mode) c }

  stands_here : (code : ℕ) (stands : Looking) → LookingFacts same hash begun.mode begun.root keys code c blocks stands → LookingStands (setting_of begun.mode begun.root) m c blocks code stands
  stands_here code at.Roots f = tt
  stands_here code (at.Probes trial) f = (f.0, f.1, f.2)
  stands_here code (at.Nexts table) f = (f.1, f.2)
  stands_here code (at.Over found) f = absurd f

  pub below_here : (l : Lookup) → LooksHere l → (end : Lookup × Advance (Option ℕ)) → Steps Took value_at m (lookup_plan keys l) m end → end.1 ≡ progress.Goes → IsBelow (number_of_lookup c end.0) (number_of_lookup c l)
  below_here l h end s =
      (looked_on same hash (setting_of begun.mode begun.root) m c blocks m c blocks (onward l h) l keys
      (subst (λ (code : ℕ). LookingStands (setting_of begun.mode begun.root) m c blocks code l.stands) (sym h.facts.hash_is) (stands_here begun.hash l.stands h.facts.point)) end s).1

  two_numbers : (l l2 : Lookup) → length (number_of_lookup c l2) ≡ length (number_of_lookup c l)
  two_numbers l l2 = two l2.stands ∙ sym (two l.stands)
    where
      two : (stands : Looking) → length (number_at_looking c stands) ≡ 2
      two at.Roots = refl
      two (at.Probes trial) = refl
      two (at.Nexts table) = refl
      two (at.Over found) = refl

  goes_here : (l l2 : Lookup) → LooksHere l → (told : Advance (Option ℕ)) → Continues told → (m2 : Mem (Node K V)) → m2 ≡ m → TellsHere (l2, told)
      → Steps Took value_at m (lookup_plan keys l) m2 (l2, told) → LooksHere l2 × IsBelow (number_of_lookup c l2) (number_of_lookup c l)
  goes_here l l2 h progress.Goes on m2 is tells s =
      (on_here l h l2 tells, below_here l h (l2, progress.Goes) (subst (λ (x : Mem (Node K V)). Steps Took value_at m (lookup_plan keys l) x (l2, progress.Goes)) is s) refl)
  goes_here l l2 h progress.Waits on m2 is tells s = absurd tells
  goes_here l l2 h (progress.Done found) on m2 is tells s = absurd on
  goes_here l l2 h (progress.Refused fault) on m2 is tells s = absurd on

  from_here : (l : Lookup) → LooksHere l → (xs : List ℕ) → number_of_lookup c l ≡ xs → EndsFrom xs → Ends (lookup_plan keys) l m
  from_here l h xs is (ends _ below) =
      all_end l m (looks_may l h) (λ m2 l2 told on s.
      let t = looks_tell l h m2 (l2, told) s in
      let g = goes_here l l2 h told on m2 t.0 t.1 s in
      subst (λ (x : Mem (Node K V)). Ends (lookup_plan keys) l2 x) (sym t.0)
      (from_here l2 g.0 (number_of_lookup c l2) refl
      (below (number_of_lookup c l2) (two_numbers l l2 ∙ ap (λ (z : List ℕ). length z) is) (subst (λ (z : List ℕ). IsBelow (number_of_lookup c l2) z) is g.1))))

  pub looks_end : (l : Lookup) → LooksHere l → Ends (lookup_plan keys) l m
  looks_end l h = from_here l h (number_of_lookup c l) refl (descents_end (number_of_lookup c l))

  -- it never waits, and is never refused
  pub looks_on : (l l2 : Lookup) → LooksHere l → (told : Advance (Option ℕ)) → ((found : Option ℕ) → told ≢ progress.Done found)
      → Steps Took value_at m (lookup_plan keys l) m (l2, told) → LooksHere l2 × Continues told
  looks_on l l2 h told more s = by_told told more (looks_tell l h m (l2, told) s).1
    where
      by_told : (told : Advance (Option ℕ)) → ((found : Option ℕ) → told ≢ progress.Done found) → TellsHere (l2, told) → LooksHere l2 × Continues told
      by_told progress.Goes more tells = (on_here l h l2 tells, tt)
      by_told progress.Waits more tells = absurd tells
      by_told (progress.Done found) more tells = absurd (more found refl)
      by_told (progress.Refused fault) more tells = absurd tells

-- over a memory that is lent
module _ {T : Type 0} where
  abbrev pub CanLent : Lent T → Op T → Type 0
  CanLent x op = Can x.memory.now op

  abbrev pub TookLent : Lent T → Op T → Out T → Lent T → Type 0
  TookLent x op out n = Gives x.memory.now op out × (n ≡ x)

  abbrev pub shown_lent : Lent T → ℕ → Option T
  shown_lent x = value_at x.memory.now

module _ {T R : Type 0} (lent : Lent T) where
  lent_load : (at : At) (rest : Out T → Then T R) → May Can Took value_at lent.memory.now (Do (Load at) rest) → May CanLent TookLent shown_lent lent (Do (Load at) rest)
  lent_load at rest may = (may.0, λ out n took. subst (λ (x : Lent T). MaySee (shown_lent x) (rest out)) (sym took.1) (may.1 out lent.memory.now (took.0, refl)))

  load_lent : (at : At) (rest : Out T → Then T R) (n : Lent T) (end : R) → Steps TookLent shown_lent lent (Do (Load at) rest) n end → (n ≡ lent) × Steps Took value_at lent.memory.now (Do (Load at) rest) lent.memory.now end
  load_lent at rest n end (out, (gives, is), comes) = (is, (out, (gives, refl), subst (λ (x : Lent T). Comes (shown_lent x) (rest out) end) is comes))

  turn_lent : (rest : Then T R) (n : Lent T) (end : R) → Steps TookLent shown_lent lent (Turn rest) n end → (n ≡ lent) × Steps Took value_at lent.memory.now (Turn rest) lent.memory.now end
  turn_lent rest n end (is, comes) = (is, (refl, subst (λ (x : Lent T). Comes (shown_lent x) rest end) is comes))

module _ {K V : Type 0} (keys : K → Bool) (lent : Lent (Node K V)) (l : Lookup) where
  pub may_lent_at : (stands : Looking) → May Can Took value_at lent.memory.now (plan_at keys l stands) → May CanLent TookLent shown_lent lent (plan_at keys l stands)
  may_lent_at at.Roots may = lent_load lent (Root l.root) (link_found l) may
  may_lent_at (at.Probes trial) may = lent_load lent (place_tried trial) (word_found keys l trial) may
  may_lent_at (at.Nexts table) may = lent_load lent (at_word table NEXT) (link_found l) may
  may_lent_at (at.Over found) may = may

  pub steps_lent_at : (stands : Looking) (n : Lent (Node K V)) (end : Lookup × Advance (Option ℕ)) → Steps TookLent shown_lent lent (plan_at keys l stands) n end
      → (n ≡ lent) × Steps Took value_at lent.memory.now (plan_at keys l stands) lent.memory.now end
  steps_lent_at at.Roots n end s = load_lent lent (Root l.root) (link_found l) n end s
  steps_lent_at (at.Probes trial) n end s = load_lent lent (place_tried trial) (word_found keys l trial) n end s
  steps_lent_at (at.Nexts table) n end s = load_lent lent (at_word table NEXT) (link_found l) n end s
  steps_lent_at (at.Over found) n end s = turn_lent lent (Now (l, progress.Done found)) n end s

  -- by the memory that is lent
  module _ (m : Mem (Node K V)) (is : lent.memory.now ≡ m) where
    pub may_lent : May Can Took value_at m (lookup_plan keys l) → May CanLent TookLent shown_lent lent (lookup_plan keys l)
    may_lent may = may_lent_at l.stands (subst (λ (x : Mem (Node K V)). May Can Took value_at x (lookup_plan keys l)) (sym is) may)

    pub steps_lent : (n : Lent (Node K V)) (end : Lookup × Advance (Option ℕ)) → Steps TookLent shown_lent lent (lookup_plan keys l) n end
        → (n.memory.now ≡ m) × Steps Took value_at m (lookup_plan keys l) m end
    steps_lent n end s =
        let k = steps_lent_at l.stands n end s in
        (ap (λ (x : Lent (Node K V)). x.memory.now) k.0 ∙ is, subst (λ (x : Mem (Node K V)). Steps Took value_at x (lookup_plan keys l) x end) is k.1)

-- it has not ended
abbrev goes_so : {A : Type 0} → Advance A → Type 0
goes_so (progress.Done a) = ⊥
goes_so _ = Unit {0}

pub not_done : {A : Type 0} (told : Advance A) → (told ≡ progress.Goes) ⊎ ((told ≡ progress.Waits) ⊎ ((fault : Fault) × (told ≡ progress.Refused fault))) → (a : A) → told ≢ progress.Done a
not_done {A} told more a is = subst (goes_so {A = A}) is (by_more more)
  where
    by_more : (told ≡ progress.Goes) ⊎ ((told ≡ progress.Waits) ⊎ ((fault : Fault) × (told ≡ progress.Refused fault))) → goes_so told
    by_more (inl e) = subst (goes_so {A = A}) (sym e) tt
    by_more (inr (inl e)) = subst (goes_so {A = A}) (sym e) tt
    by_more (inr (inr (fault, e))) = subst (goes_so {A = A}) (sym e) tt

-- the least bound is lower after a step
pub lower_asked : {K V Q : Type 0} (asks : Q → K → Bool) (n : ℕ) (m m0 : Mem (Node K V)) (l l0 : Lookup) (q q0 : Q) → m0 ≡ m → l0 ≡ l → q0 ≡ q → IsLeast (λ k. within (lookup_plan (asks q0)) k l0 m0) n
    → (k : ℕ) (m3 : Mem (Node K V)) (l2 l3 : Lookup) (q3 : Q) → m3 ≡ m → l3 ≡ l2 → q3 ≡ q → IsLeast (λ k. within (lookup_plan (asks q3)) k l3 m3) k
    → (told : Advance (Option ℕ)) → Continues told → Steps Took value_at m (lookup_plan (asks q) l) m (l2, told) → k < n
lower_asked asks n m m0 l l0 q q0 em el eq least k m3 l2 l3 q3 em2 el2 eq2 least2 told on s =
    less (lookup_plan (asks q)) n l l0 m m0 el em (subst (λ x. IsLeast (λ j. within (lookup_plan (asks x)) j l0 m0) n) eq least)
    k l2 l3 m m3 el2 em2 (subst (λ x. IsLeast (λ j. within (lookup_plan (asks x)) j l3 m3) k) eq2 least2) told on s
