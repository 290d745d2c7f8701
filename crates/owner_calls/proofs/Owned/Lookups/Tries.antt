-- One try of a lookup is a step of it, and what follows from that along the tries at a table.
use Rattle.std.specs.Prelude.{◌≡◌, ◌≤◌, ◌<◌, ◌-◌, ◌⊎◌, ℕ, suc, Bool, true, false, [], ◌∷◌, Option, Some, None, IsSome, nat_lt, if◌then◌else◌}
use Rattle.std.proofs.Common.{refl, sym, ◌∙◌, ap, subst, arith, inl, ⊎_elim}
use Rattle.std.proofs.lemmas.Bool.{false≢true, cases_lt}
use Rattle.seize_words.specs.OneMemory.Mem.{Mem, Can, Took, value_at, word_at}
use Rattle.seize_words.specs.OneMemory.Op.{Found}
use Rattle.seize_words.specs.OneMemory.Plan.{Plan, Then, Now, Seeing, May, MaySee, Steps, Ends as Comes}
use Rattle.seize_words.specs.OneMemory.Word.{block_in}
use Rattle.seize_words.specs.declared.at.At.{At}
use Rattle.seize.specs.declared.advance.Advance.{Advance}
use Rattle.seize.specs.declared.advance.Advance.TheVariants as progress
use Rattle.map_tables.specs.Finding.{finding, may_name}
use Rattle.map_tables.specs.Chunks.{is_incremental}
use Rattle.map_tables.specs.Trials.{place_tried, next_trial}
use Rattle.map_tables.specs.declared.finding.Aim.TheVariants.{Looks}
use Rattle.map_tables.specs.declared.finding.Finding.{Finding}
use Rattle.map_tables.specs.declared.finding.Finding.TheVariants as is
use Rattle.map_tables.specs.declared.node.Node.{Node}
use Rattle.map_tables.specs.declared.table.Table.{Table}
use Rattle.map_tables.specs.declared.trial.Trial.{Trial}
use Rattle.map_tables.specs.Probes.{probe_after}
use Rattle.map_straight.specs.Given.ResizeLookup.{lookup_plan, names_pair, told, after_finding, passed, beyond, answered, going}
use Rattle.map_straight.specs.Given.ResizeDeclared.lookup.Lookup.{Lookup}
use Rattle.map_straight.specs.Given.ResizeDeclared.lookup.Looking.TheVariants as at
use Rattle.map_straight.specs.Given.RuleChart.{Chart}
use Rattle.map_straight.specs.Given.RuleWords.{Blocks}
use Rattle.owner_whole.specs.Given.PointsMeasures.{IsBelow}
use Rattle.owner_whole.specs.Strides.Looking.{LooksIn, Finds, at_try, at_next}
use Rattle.owner_calls.specs.Owned.Tries.{Nearer, TriesTo, tried_beyond}
use Rattle.owner_whole.specs.Strides.Ending.{Continues}
use Rattle.owner_whole.specs.Strides.Within.{IsLeast, within}
use Rattle.owner_calls.specs.declared.tries.Tried.TheVariants as tried
use Rattle.owner_whole.proofs.Strides.Lookups.Ends.{looks_tell, looks_on, not_done, below_here}
use Rattle.owner_whole.proofs.Strides.Runs.Steps.{within_on}

module _ {T R : Type 0} (shown : ℕ → Option T) where
  sees_so : (b : Bool) (x y : Then T R) → b ≡ true → MaySee shown (if b then x else y) → MaySee shown x
  sees_so b x y is = subst (λ (z : Bool). MaySee shown (if z then x else y) → MaySee shown x) (sym is) (λ s. s)

  comes_then : (b : Bool) (x y : Then T R) (end : R) → b ≡ true → Comes shown x end → Comes shown (if b then x else y) end
  comes_then b x y end is s = subst (λ (z : Bool). Comes shown (if z then x else y) end) (sym is) s

  comes_else : (b : Bool) (x y : Then T R) (end : R) → b ≡ false → Comes shown y end → Comes shown (if b then x else y) end
  comes_else b x y end is s = subst (λ (z : Bool). Comes shown (if z then x else y) end) (sym is) s

-- the word that was read, by the names of its memory and its place
pub found_at : {T : Type 0} (m0 m : Mem T) → m0 ≡ m → (at0 at : At) → at0 ≡ at → (w : ℕ) → word_at m0 at0 ≡ Some w → word_at m at ≡ Some w
found_at m0 m is at0 at so w found = ap (λ a. word_at m a) (sym so) ∙ ap (λ x. word_at x at0) (sym is) ∙ found

module _ {K V : Type 0} (keys : K → Bool) (m : Mem (Node K V)) (l : Lookup) (trial : Trial) (w : ℕ) (found : word_at m (place_tried trial) ≡ Some w) where
  abbrev seeing : Then (Node K V) (Lookup × Advance (Option ℕ))
  seeing = Seeing (block_in w) (λ value. Now (told (at_try l trial) trial w (names_pair keys value)))

  abbrev passing : Then (Node K V) (Lookup × Advance (Option ℕ))
  passing = Now (told (at_try l trial) trial w false)

  -- the pair that its word may name can be looked at
  pub try_sees : May Can Took value_at m (lookup_plan keys (at_try l trial)) → may_name l.hash w ≡ true → IsSome (value_at m (block_in w))
  try_sees may named = (sees_so (value_at m) (may_name l.hash w) seeing passing named (may.1 (Found w) m (found, refl))).0

  -- it names a pair, which was looked at
  pub try_names : (f : Finding) (same : Bool) (v : Node K V) → may_name l.hash w ≡ true → value_at m (block_in w) ≡ Some v → same ≡ names_pair keys v → f ≡ finding l.mode Looks w same
      → Steps Took value_at m (lookup_plan keys (at_try l trial)) m (after_finding (at_try l trial) trial w f)
  try_names f same v named is by so = (
    Found w,
    (found, refl),
    comes_then (value_at m) (may_name l.hash w) seeing passing (after_finding (at_try l trial) trial w f) named
        (v, is, ap (after_finding (at_try l trial) trial w) (so ∙ ap (finding l.mode Looks w) by)),
  )

  -- it names none that it may be
  pub try_passes : (f : Finding) (same : Bool) → may_name l.hash w ≡ false → same ≡ false → f ≡ finding l.mode Looks w same
      → Steps Took value_at m (lookup_plan keys (at_try l trial)) m (after_finding (at_try l trial) trial w f)
  try_passes f same other by so = (
    Found w,
    (found, refl),
    comes_else (value_at m) (may_name l.hash w) seeing passing (after_finding (at_try l trial) trial w f) other
        (ap (after_finding (at_try l trial) trial w) (so ∙ ap (finding l.mode Looks w) by)),
  )

abbrev is_none : Option Trial → Type 0
is_none None = Unit {0}
is_none (Some x) = ⊥

-- the table is the same at the next try
pub next_table : (t n : Trial) → next_trial t ≡ Some n → n.table ≡ t.table
next_table t n = by (nat_lt t.probe.len t.table.limit)
  where
    some_table : Option Trial → Table → Type 0
    some_table None table = Unit {0}
    some_table (Some x) table = x.table ≡ table

    by : (b : Bool) → (if b then Some record { table = t.table; probe = probe_after t.probe (t.table.len - 1); met = t.met; most = t.most } else None) ≡ Some n → n.table ≡ t.table
    by true e = subst (λ (x : Option Trial). some_table x t.table) e refl
    by false e = absurd (subst is_none e tt)

-- where a lookup that stands at a try is written anew, it is the same
pub at_first : (l : Lookup) (trial : Trial) → l.stands ≡ at.Probes trial → at_try l trial ≡ l
at_first l trial is = ap (λ s. record l { stands = s }) (sym is)

-- of the finding of a try: how the lookup goes on
module _ (l : Lookup) (trial : Trial) (w : ℕ) (f : Finding) where
  abbrev end : Lookup × Advance (Option ℕ)
  end = after_finding (at_try l trial) trial w f

  pub on_next : (n : Trial) → f ≡ is.Passed → next_trial trial ≡ Some n → end ≡ (at_try l n, progress.Goes)
  on_next n so next = ap (after_finding (at_try l trial) trial w) so ∙ ap (passed (at_try l trial) trial.table) next

  pub on_moved : f ≡ is.Moved → end ≡ (at_next l trial.table, progress.Goes)
  on_moved so = ap (after_finding (at_try l trial) trial w) so

  pub on_free : f ≡ is.Free → end ≡ answered (at_try l trial) None
  on_free so = ap (after_finding (at_try l trial) trial w) so

  pub on_there : (f ≡ is.Copying) ⊎ (f ≡ is.There) → end ≡ answered (at_try l trial) (Some w)
  on_there = ⊎_elim (λ so. ap (after_finding (at_try l trial) trial w) so) (λ so. ap (after_finding (at_try l trial) trial w) so)

  pub on_last : f ≡ is.Passed → next_trial trial ≡ None → end ≡ beyond (at_try l trial) trial.table
  on_last so next = ap (after_finding (at_try l trial) trial w) so ∙ ap (passed (at_try l trial) trial.table) next

-- what follows from a try that was made, for who looks in this map
module _ {K V : Type 0} (same : K → K → Bool) (hash : K → ℕ) (keys : K → Bool) (m : Mem (Node K V)) (c : Chart K) (blocks : Blocks) (begun l : Lookup) (trial : Trial)
    (h : LooksIn same hash keys m c blocks begun (at_try l trial)) (end : Lookup × Advance (Option ℕ)) (s : Steps Took value_at m (lookup_plan keys (at_try l trial)) m end) where
  abbrev step_to : (end2 : Lookup × Advance (Option ℕ)) → end ≡ end2 → Steps Took value_at m (lookup_plan keys (at_try l trial)) m end2
  step_to end2 is = subst (λ (x : Lookup × Advance (Option ℕ)). Steps Took value_at m (lookup_plan keys (at_try l trial)) m x) is s

  pub looks_then : (l2 : Lookup) → end ≡ (l2, progress.Goes) → LooksIn same hash keys m c blocks begun l2
  looks_then l2 is = (looks_on same hash keys m c blocks begun (at_try l trial) l2 h progress.Goes (not_done progress.Goes (inl refl)) (step_to (l2, progress.Goes) is)).0

  pub finds_then : (l2 : Lookup) (found : Option ℕ) → end ≡ (l2, progress.Done found) → Finds same hash keys c blocks begun found
  finds_then l2 found is = (looks_tell same hash keys m c blocks begun (at_try l trial) h m (l2, progress.Done found) (step_to (l2, progress.Done found) is)).1

  -- fewer tries are left
  pub fewer_then : (n : Trial) → end ≡ (at_try l n, progress.Goes) → n.table ≡ trial.table → n.table.limit - n.probe.len < trial.table.limit - trial.probe.len
  fewer_then n is table = by (below_here same hash keys m c blocks begun (at_try l trial) h (at_try l n, progress.Goes) (step_to (at_try l n, progress.Goes) is) refl)
    where
      by : IsBelow ((c.past - n.table.turn) ∷ suc (n.table.limit - n.probe.len) ∷ []) ((c.past - trial.table.turn) ∷ suc (trial.table.limit - trial.probe.len) ∷ []) → n.table.limit - n.probe.len < trial.table.limit - trial.probe.len
      by = ⊎_elim (λ less. absurd (let e = ap (λ (x : Table). c.past - x.turn) table in omega (arith, less, e)))
          (λ also. ⊎_elim (λ less. omega (arith, less)) (λ none. absurd none.1) also.1)

  pub beyond_then : end ≡ beyond (at_try l trial) trial.table → TriesTo same hash keys m c blocks begun l (tried_beyond l trial.table)
  beyond_then is = by (is_incremental l.mode) is
    where
      by : (b : Bool) → end ≡ (if b then going (at_try l trial) (at.Nexts trial.table) else answered (at_try l trial) None)
          → TriesTo same hash keys m c blocks begun l (if b then tried.GoesBeyond trial.table else tried.Ends None)
      by true is = looks_then (at_next l trial.table) is
      by false is = finds_then _ None is

-- and of the number of steps that are left
module _ {K V : Type 0} (keys : K → Bool) (m : Mem (Node K V)) (l : Lookup) (trial : Trial) (end : Lookup × Advance (Option ℕ)) (s : Steps Took value_at m (lookup_plan keys (at_try l trial)) m end) (n : ℕ)
    (near : (k : ℕ) × (k ≤ n) × (within (lookup_plan keys) k (at_try l trial) m ≡ true)) where
  pub nearer_then : (l2 : Lookup) → end ≡ (l2, progress.Goes) → (k : ℕ) × (k ≤ n) × (within (lookup_plan keys) k l2 m ≡ true)
  nearer_then l2 is =
      let o = within_on (lookup_plan keys) near.0 (at_try l trial) m near.2 l2 m progress.Goes tt (subst (λ (x : Lookup × Advance (Option ℕ)). Steps Took value_at m (lookup_plan keys (at_try l trial)) m x) is s) in
      let below = o.1 in let most = near.1 in
      (o.0, omega (arith, below, most), o.2)

  pub nearer_beyond : end ≡ beyond (at_try l trial) trial.table → Nearer (λ k x. within (lookup_plan keys) k x m) n l (tried_beyond l trial.table)
  nearer_beyond is = by (is_incremental l.mode) is
    where
      by : (b : Bool) → end ≡ (if b then going (at_try l trial) (at.Nexts trial.table) else answered (at_try l trial) None)
          → Nearer (λ k x. within (lookup_plan keys) k x m) n l (if b then tried.GoesBeyond trial.table else tried.Ends None)
      by true is = nearer_then (at_next l trial.table) is
      by false is = tt

abbrev asked_plan : {K V Q : Type 0} → (Q → K → Bool) → Q → Lookup → Plan (Node K V) (Lookup × Advance (Option ℕ))
asked_plan asks q = lookup_plan (asks q)

-- the same bound of the same lookup
same_within : {K V Q : Type 0} (asks : Q → K → Bool) (n : ℕ) (m m0 : Mem (Node K V)) (l l0 : Lookup) (q q0 : Q) → m0 ≡ m → l0 ≡ l → q0 ≡ q
    → within (asked_plan asks q0) n l0 m0 ≡ within (asked_plan asks q) n l m
same_within asks n m m0 l l0 q q0 em el eq =
    subst (λ y. within (asked_plan asks q0) n l0 m0 ≡ within (asked_plan asks y) n l m) eq
    (subst (λ y. within (asked_plan asks q0) n l0 m0 ≡ within (asked_plan asks q0) n y m) el
    (ap (λ y. within (asked_plan asks q0) n l0 y) em))

-- the least bound is lower after a step and the tries behind it
pub lower_behind : {K V Q : Type 0} (asks : Q → K → Bool) (n : ℕ) (m m0 : Mem (Node K V)) (l l0 : Lookup) (q q0 : Q) → m0 ≡ m → l0 ≡ l → q0 ≡ q → IsLeast (λ k. within (asked_plan asks q0) k l0 m0) n
    → (l2 : Lookup) (told : Advance (Option ℕ)) → Continues told → Steps Took value_at m (lookup_plan (asks q) l) m (l2, told)
    → (l3 : Lookup) → ((i : ℕ) → within (asked_plan asks q) i l2 m ≡ true → (j : ℕ) × (j ≤ i) × (within (asked_plan asks q) j l3 m ≡ true))
    → (k : ℕ) (m4 : Mem (Node K V)) (l4 : Lookup) (q4 : Q) → m4 ≡ m → l4 ≡ l3 → q4 ≡ q → IsLeast (λ j. within (asked_plan asks q4) j l4 m4) k → k < n
lower_behind asks n m m0 l l0 q q0 em el eq least l2 told on s l3 near k m4 l4 q4 em4 el4 eq4 least4 =
    let is = sym (same_within asks n m m0 l l0 q q0 em el eq) ∙ least.0 in
    let o = within_on (asked_plan asks q) n l m is l2 m told on s in
    let p = near o.0 o.2 in
    let is4 = same_within asks p.0 m m4 l3 l4 q q4 em4 el4 eq4 ∙ p.2 in
    let first = o.1 in let second = p.1 in
    ⊎_elim (λ (below : p.0 < k). absurd (false≢true (sym (least4.1 p.0 below) ∙ is4))) (λ (le : k ≤ p.0). let r : k < n = omega (arith, le, first, second) in r) (cases_lt p.0 k)
