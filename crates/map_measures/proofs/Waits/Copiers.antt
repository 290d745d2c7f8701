-- A copier waits at a place that another caller copies, or for the status, or within a row of the collector: so its plan says, whatever the memory is.
use Rattle.std.specs.Prelude.{◌==◌, ◌%◌, ◌+◌, ◌^◌, ◌&&◌, not, nat_lt, if◌then◌else◌, Ok, Err, bit_or}
use Rattle.std.proofs.Common.{◌≡◌, ◌≢◌, ℕ, ◌/◌, Bool, true, false, Some, refl, ap}
use Rattle.std.proofs.lemmas.Bool.{eqb-false}
use Rattle.seize_words.specs.OneMemory.Word.{block_in}
use Rattle.seize_words.specs.OneMemory.Mem.{Mem, Took, value_at, word_at, with_word}
use Rattle.seize_words.specs.OneMemory.Op.{Out, Found, Exchanged}
use Rattle.seize_words.specs.OneMemory.Plan.{Now, Seeing, Ends, Steps}
use Rattle.seize_words.proofs.OneMemory.OneOwner.Operations.{loaded, ored}
use Rattle.seize.specs.declared.advance.Advance.{Advance}
use Rattle.seize.specs.declared.advance.Advance.TheVariants as progress
use Rattle.map_tables.specs.Chunks.{is_incremental}
use Rattle.map_tables.specs.Marks.{has_mark}
use Rattle.map_tables.specs.TablePlaces.{at_word, at_place}
use Rattle.map_tables.specs.declared.marks.TheConstants.{COPYING, COPIED}
use Rattle.map_tables.specs.declared.node.Node.{Node}
use Rattle.map_tables.specs.declared.probe.Probe.{Probe}
use Rattle.map_tables.specs.declared.status.TheConstants.Status.{PROMOTED, ABORTED}
use Rattle.map_tables.specs.declared.table.Table.{Table}
use Rattle.map_tables.specs.declared.table_words.TheConstants.{STATUS}
use Rattle.map_machines.specs.Copier.{copier_plan, plan_at}
use Rattle.map_machines.specs.CopierClaims.{root_read, next_read, status_read, claim_read, claimed}
use Rattle.map_machines.specs.CopierCounts.{counted}
use Rattle.map_machines.specs.CopierFurther.{further_read, grown, replacement_read, remade}
use Rattle.map_machines.specs.CopierMarks.{is_mine, is_awaited, without_copying, probing, key_hash, marked, mine_marked, to}
use Rattle.map_machines.specs.CopierPlaces.{place_read, after_put}
use Rattle.map_machines.specs.CopierPromotes.{promoted, successor_read}
use Rattle.map_machines.specs.CopierStates.{standing, next_place, place_done}
use Rattle.map_machines.specs.NewTable.{new_table_plan}
use Rattle.map_machines.specs.declared.copier.Copier.{Copier}
use Rattle.map_machines.specs.declared.copier.Copying.{Copying as Point}
use Rattle.map_machines.specs.declared.copier.Copying.TheVariants as at
use Rattle.map_machines.specs.declared.new_table.NewTable.{NewTable}
use Rattle.map_machines.specs.declared.yielding.Yielding.{Yielding}
use Rattle.map_machines.specs.declared.yielding.Yielding.TheVariants as outcome
use Rattle.many_calls.proofs.Given.RuleKeys.Always.{Always, AlwaysOf, always_if, always_steps}
use Rattle.many_calls.specs.Given.PointsTold.{IsRowOfCopier}
use Rattle.map_measures.proofs.Waits.Never.{Advances, always_within, new_table_goes}

-- it goes on, or has ended
abbrev pub Proceeds : {A T S : Type 0} → S × Yielding T A → Type 0
Proceeds (s, outcome.Waits) = ⊥
Proceeds (s, _) = Unit {0}

-- the points at which it may wait
abbrev pub MayWait : Point → Type 0
MayWait at.Asks = Unit {0}
MayWait at.Marks = Unit {0}
MayWait (at.Retires settle rest) = Unit {0}
MayWait _ = ⊥

module _ {K : Type 0} (V : Type 0) (hash : K → ℕ) (p : Copier) where
  abbrev On : Copier × Yielding (Node K V) Table → Type 0
  On = Proceeds

  on_root : (out : Out (Node K V)) → Always On (root_read p out)
  on_root (Found link) = λ value. tt
  on_root _ = tt

  on_next : (out : Out (Node K V)) → Always On (next_read p out)
  on_next (Found link) = always_if On (link == 0) _ _ tt (λ value. tt)
  on_next _ = tt

  on_claim : (out : Out (Node K V)) → Always On (claim_read p out)
  on_claim (Found claim) = always_if On (nat_lt claim p.source.len) _ _ tt tt
  on_claim _ = tt

  on_claimed : (out : Out (Node K V)) → Always On (claimed p out)
  on_claimed (Found claim) = always_if On (nat_lt claim p.source.len) _ _ tt tt
  on_claimed _ = tt

  on_place : (word code : ℕ) (table : Table) (probe : Probe) (out : Out (Node K V)) → Always On (place_read p word code table probe out)
  on_place word code table probe (Found found) = always_if On (found == 0) _ _ tt tt
  on_place word code table probe _ = tt

  on_put : (word code : ℕ) (table : Table) (probe : Probe) (out : Out (Node K V)) → Always On (after_put p word code table probe out)
  on_put word code table probe (Exchanged (Ok found)) = tt
  on_put word code table probe (Exchanged (Err found)) = tt
  on_put word code table probe _ = tt

  on_further : (word code : ℕ) (table : Table) (out : Out (Node K V)) → Always On (further_read p word code table out)
  on_further word code table (Found link) = always_if On (link == 0) _ _ tt (λ value. tt)
  on_further word code table _ = tt

  on_replacement : (out : Out (Node K V)) → Always On (replacement_read p out)
  on_replacement (Found link) = always_if On (link == 0) _ _ tt (λ value. tt)
  on_replacement _ = tt

  on_counted : (out : Out (Node K V)) → Always On (counted p out)
  on_counted (Found count) = always_if On ((count + p.done) % 2 ^ 64 == p.source.len) _ _ tt tt
  on_counted _ = tt

  on_promoted : (out : Out (Node K V)) → Always On (promoted p out)
  on_promoted (Exchanged (Ok found)) = tt
  on_promoted (Exchanged (Err found)) = tt
  on_promoted _ = tt

  on_successor : (table : ℕ) (out : Out (Node K V)) → Always On (successor_read p table out)
  on_successor table (Found link) = tt
  on_successor table _ = tt

  on_grown : (word code : ℕ) (made : NewTable × Advance Table) → Advances made → On (grown p word code made)
  on_grown word code (making, progress.Goes) on = tt
  on_grown word code (making, progress.Waits) on = on
  on_grown word code (making, progress.Done table) on = tt
  on_grown word code (making, progress.Refused fault) on = tt

  on_remade : (made : NewTable × Advance Table) → Advances made → On (remade p made)
  on_remade (making, progress.Goes) on = tt
  on_remade (making, progress.Waits) on = on
  on_remade (making, progress.Done table) on = tt
  on_remade (making, progress.Refused fault) on = tt

  -- at all other points it goes on
  goes_at : (stands : Point) → (MayWait stands → ⊥) → AlwaysOf On (plan_at hash p stands)
  goes_at at.Begins none = on_root
  goes_at at.Follows none = on_next
  goes_at at.Asks none = absurd (none tt)
  goes_at at.Sees none = on_claim
  goes_at at.Claims none = on_claimed
  goes_at at.Marks none = absurd (none tt)
  goes_at (at.Probes word code table probe) none = on_place word code table probe
  goes_at (at.Puts word code table probe) none = on_put word code table probe
  goes_at (at.Covers word) none = λ out. tt
  goes_at (at.Passes word code table) none = on_further word code table
  goes_at (at.Grows word code making) none =
      always_within Advances On (grown p word code) (on_grown word code) (new_table_plan making) (new_table_goes K V making)
  goes_at at.Aborts none = λ out. tt
  goes_at at.Replaces none = on_replacement
  goes_at (at.Remakes making) none = always_within Advances On (remade p) on_remade (new_table_plan making) (new_table_goes K V making)
  goes_at at.Counts none = on_counted
  goes_at (at.Tallies word fault) none = λ out. tt
  goes_at (at.Unmarks word fault) none = λ out. tt
  goes_at (at.Unclaims fault) none = λ out. tt
  goes_at at.Promotes none = on_promoted
  goes_at at.Announces none = λ out. tt
  goes_at (at.Succeeds table) none = on_successor table
  goes_at (at.Retires settle rest) none = absurd (none tt)
  goes_at at.Over none = tt
  goes_at (at.Refused fault) none = tt

-- what it has seen in this memory
module _ {K V : Type 0} (p : Copier) (m : Mem (Node K V)) where
  -- a place that names a pair, and was marked before by another caller, and not yet as copied
  abbrev pub SeesCopying : Type 0
  SeesCopying =
      (word : ℕ) × (word_at m (at_place p.source p.place) ≡ Some word) × (is_incremental p.setting.mode ≡ true) × (block_in word ≢ 0)
      × (has_mark word COPYING ≡ true) × (has_mark word COPIED ≡ false)

  -- a status that says neither that the table is promoted nor that it was given up
  abbrev pub SeesPending : Type 0
  SeesPending = (status : ℕ) × (word_at m (at_word p.target STATUS) ≡ Some status) × (status ≢ PROMOTED) × (status ≢ ABORTED)

  abbrev pub Sees : Point → Type 0
  Sees at.Marks = (p.whole ≡ true) × SeesCopying
  Sees at.Asks = (p.spent ≡ true) × SeesPending
  Sees _ = ⊥

  module _ (hash : K → ℕ) (m2 : Mem (Node K V)) (q : Copier) where
    abbrev waiting : Copier × Yielding (Node K V) Table
    waiting = (q, outcome.Waits)

    -- a step that waits does not go on
    goes_not : (x : Copier) → ◌≡◌ {A = Copier × Yielding (Node K V) Table} waiting (x, outcome.Goes) → ⊥
    goes_not x e = let told = ap (λ (y : Copier × Yielding (Node K V) Table). y.1) e in cc told

    stays : ◌≡◌ {A = Copier × Yielding (Node K V) Table} waiting (p, outcome.Waits) → q ≡ p
    stays e = ap (λ (y : Copier × Yielding (Node K V) Table). y.0) e

    asks_waits : Steps Took value_at m (plan_at hash p at.Asks) m2 waiting → (q ≡ p) × Sees at.Asks
    asks_waits s =
        let d = loaded m (status_read p) (at_word p.target STATUS) m2 waiting s in by d.0 d.1 (d.0 == PROMOTED) (d.0 == ABORTED) p.spent refl refl refl d.3
      where
        by : (status : ℕ) → word_at m (at_word p.target STATUS) ≡ Some status → (a b t : Bool) → (status == PROMOTED) ≡ a → (status == ABORTED) ≡ b
            → p.spent ≡ t
            → Ends (value_at m)
            (if a then to (standing p at.Over) else
            (if b then to (record p { spent = false; stands = at.Replaces }) else (if t then Now (p, outcome.Waits) else to (standing p at.Sees)))) waiting
            → (q ≡ p) × Sees at.Asks
        by status read true b t e f g ends = absurd (goes_not (standing p at.Over) ends)
        by status read false true t e f g ends = absurd (goes_not (record p { spent = false; stands = at.Replaces }) ends)
        by status read false false true e f g ends = (stays ends, (g, (status, read, eqb-false status PROMOTED e, eqb-false status ABORTED f)))
        by status read false false false e f g ends = absurd (goes_not (standing p at.Sees) ends)

    -- what is so of a word that another caller copies
    not_mine : (word : ℕ) → is_mine p word ≡ false → (is_incremental p.setting.mode ≡ true) × (has_mark word COPYING ≡ true)
    not_mine word e = by (is_incremental p.setting.mode) (has_mark word COPYING) refl refl e
      where
        by : (b k : Bool) → is_incremental p.setting.mode ≡ b → has_mark word COPYING ≡ k → (if b then not k else true) ≡ false
            → (is_incremental p.setting.mode ≡ true) × (has_mark word COPYING ≡ true)
        by true true mode mark e = (mode, mark)
        by true false mode mark e = absurd (cc e)
        by false k mode mark e = absurd (cc e)

    awaited : (word : ℕ) → is_awaited p word ≡ true → (p.whole ≡ true) × (block_in word ≢ 0) × (has_mark word COPIED ≡ false)
    awaited word e = by p.whole (block_in word == 0) (has_mark word COPIED) refl refl refl e
      where
        by : (a z k : Bool) → p.whole ≡ a → (block_in word == 0) ≡ z → has_mark word COPIED ≡ k → (a && not z && not k) ≡ true
            → (p.whole ≡ true) × (block_in word ≢ 0) × (has_mark word COPIED ≡ false)
        by true false false whole zero mark e = (whole, eqb-false (block_in word) 0 zero, mark)
        by true false true whole zero mark e = absurd (cc e)
        by true true k whole zero mark e = absurd (cc e)
        by false z k whole zero mark e = absurd (cc e)

    marks_waits : Steps Took value_at m (plan_at hash p at.Marks) m2 waiting → (q ≡ p) × Sees at.Marks
    marks_waits s =
        let d = ored m (marked hash p) (at_place p.source p.place) COPYING m2 waiting s in
        by (with_word m (at_place p.source p.place) (bit_or d.0 COPYING)) d.0 d.1 (is_mine p d.0) (is_awaited p d.0) refl refl d.3
      where
        mine : (n : Mem (Node K V)) (word : ℕ) (b : Bool)
            → Ends (value_at n)
            (if b then to (place_done p) else Seeing (word / 2048) (λ value. to (probing p (without_copying word) (key_hash hash value) p.target))) waiting → ⊥
        mine n word true ends = goes_not (place_done p) ends
        mine n word false ends = goes_not (probing p (without_copying word) (key_hash hash ends.0) p.target) ends.2

        by : (n : Mem (Node K V)) (word : ℕ) → word_at m (at_place p.source p.place) ≡ Some word → (a b : Bool) → is_mine p word ≡ a → is_awaited p word ≡ b
            → Ends (value_at n) (if a then mine_marked hash p word else (if b then Now (p, outcome.Waits) else to (next_place p))) waiting
            → (q ≡ p) × Sees at.Marks
        by n word read true b own waits ends = absurd (mine n word (word / 2048 == 0) ends)
        by n word read false true own waits ends =
            let other = not_mine word own in
            let wanted = awaited word waits in (stays ends, (wanted.0, (word, read, other.0, wanted.1, other.1, wanted.2)))
        by n word read false false own waits ends = absurd (goes_not (next_place p) ends)

    waits_at : (stands : Point) → (IsRowOfCopier stands → ⊥) → Steps Took value_at m (plan_at hash p stands) m2 waiting → (q ≡ p) × Sees stands
    waits_at at.Asks none s = asks_waits s
    waits_at at.Marks none s = marks_waits s
    waits_at (at.Retires settle rest) none s = absurd (none tt)
    waits_at stands none s = absurd (always_steps Proceeds m m2 (plan_at hash p stands) waiting (goes_at V hash p stands (λ may. may)) s)

    pub copier_waits : (IsRowOfCopier p.stands → ⊥) → Steps Took value_at m (copier_plan hash p) m2 waiting → (q ≡ p) × Sees p.stands
    copier_waits none s = waits_at p.stands none s
