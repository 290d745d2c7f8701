-- A lookup that goes on has read one word more.
use Rattle.std.specs.Prelude.{◌==◌, if◌then◌else◌}
use Rattle.std.proofs.Common.{◌≡◌, ℕ, suc, ◌+◌, ◌/◌, ◌^◌, ◌<◌, ◌≤◌, Bool, true, false, Option, Some, None, ◌⊎◌, inl, inr, refl, ap, sym, subst, ◌∙◌, arith}
use Rattle.std.proofs.lemmas.Bool.{eqb-false}
use Rattle.run_places.specs.Given.SeizeWordsDeclared.at.At.TheVariants.{Root}
use Rattle.run_places.specs.Given.SeizeWordsMem.{Mem, Took, value_at, word_at}
use Rattle.run_places.specs.Given.SeizeWordsPlan.{Steps, Ends, Now, Seeing}
use Rattle.run_places.proofs.Given.SeizeWordsOneOwner.Operations.{loaded}
use Rattle.run_places.proofs.Given.SeizeWordsPlans.{ends_if}
use Rattle.run_places.specs.Given.SeizeDeclared.advance.Advance.{Advance}
use Rattle.run_places.specs.Given.TablesChunks.{is_incremental}
use Rattle.run_places.specs.Given.TablesFinding.{finding}
use Rattle.run_places.specs.Given.TablesNodes.{table_seen}
use Rattle.run_places.specs.Given.TablesTablePlaces.{at_word}
use Rattle.run_places.specs.Given.TablesTrials.{first_trial, next_trial}
use Rattle.run_places.specs.Given.TablesDeclared.finding.Aim.TheVariants.{Looks}
use Rattle.run_places.specs.Given.TablesDeclared.finding.Finding.{Finding}
use Rattle.run_places.specs.Given.TablesDeclared.finding.Finding.TheVariants as is
use Rattle.run_places.specs.Given.TablesDeclared.node.Node.{Node}
use Rattle.run_places.specs.Given.TablesDeclared.resize_mode.ResizeMode.{ResizeMode}
use Rattle.run_places.specs.Given.TablesDeclared.table.Table.{Table}
use Rattle.run_places.specs.Given.TablesDeclared.table_words.TheConstants.{NEXT}
use Rattle.run_places.specs.Given.TablesDeclared.trial.Trial.{Trial}
use Rattle.run_places.specs.Given.ResizeLookup.{answered, going, passed, after_finding, table_read, link_found, roots, nexts, probes, plan_at, lookup_plan}
use Rattle.run_places.specs.Given.ResizeDeclared.lookup.Lookup.{Lookup}
use Rattle.run_places.specs.Given.ResizeDeclared.lookup.Looking.{Looking}
use Rattle.run_places.specs.Given.ResizeDeclared.lookup.Looking.TheVariants as at
use Rattle.run_places.specs.Given.RuleChart.{Chart}
use Rattle.run_places.specs.Given.RuleLinks.{LeadsTo}
use Rattle.run_places.specs.Given.RuleWords.{Blocks, place_word}
use Rattle.run_places.specs.Given.RuleMaps.{spot_at, IsMap, IsClass, IsTable, IsTrial}
use Rattle.run_places.proofs.Given.RuleKeys.TriesSeen.{IsNext, next_is}
use Rattle.run_places.proofs.Given.RuleWords.LinksSeen.{root_leads, next_leads}
use Rattle.run_places.proofs.Given.RuleWords.TablesSeen.{table_is}
use Rattle.run_places.specs.Given.PointsFactsLooks.{LookingFacts}
use Rattle.run_places.specs.Given.PointsSteps.{AreLawful}
use Rattle.run_places.proofs.Given.PointsLookups.Reads.{SeesPlace, sees_place, probes_tell}
use Rattle.run_places.specs.Given.LateLateLooks.{SupersededLooking, SupersededLookupFacts}
use Rattle.run_places.specs.Given.SchedulesLives.{IsFrom}
use Rattle.run_histories.specs.Promises.Brief.{read_to, HasRead, ReadsAt, ReadsOn, IsRootOf, LookupsReadOn}
use Rattle.run_histories.proofs.Promises.Brief.Sums.{one_more}

module _ {K : Type 0} (c : Chart K) (blocks : Blocks) where
  -- a table that was entered has its turn and its limit
  turn_is : (table : Table) (t : ℕ) → IsTable c blocks table t → table.turn ≡ t
  turn_is table t entered = ap (λ (x : Table). x.turn) entered.is

  -- the try is none too many there
  low : (trial : Trial) (code t j : ℕ) → IsTrial c blocks trial code t j → trial.probe.len ≤ c.limit trial.table.turn
  low trial code t j tries =
      subst (λ (u : ℕ). trial.probe.len ≤ c.limit u) (sym (turn_is trial.table t tries.table)) (let try = tries.try in let most = tries.most in omega (arith, try, most))

  module _ (incremental : Bool) (first steps : ℕ) where
    -- the root was read: it is at the first try of its table
    from_root : (trial : Trial) → first ≡ trial.table.turn → trial.table.turn < c.past → steps ≡ 0 → HasRead incremental c first trial.table.turn (suc steps) trial.probe.len
    from_root trial same made none = record {
      from = by incremental;
      made = made;
      few = (omega (arith, none));
    }
      where
        by : (b : Bool) → IsFrom b first trial.table.turn
        by true = omega (arith, same)
        by false = sym same

    -- the next try of the table
    on_probes : (turn turn2 len len2 : ℕ) → turn2 ≡ turn → len2 ≡ suc len → HasRead incremental c first turn steps len → HasRead incremental c first turn2 (suc steps) len2
    on_probes turn turn2 len len2 same next h = record {
      from = subst (IsFrom incremental first) (sym same) h.from;
      made = subst (λ (u : ℕ). u < c.past) (sym same) h.made;
      few = subst (λ (u : ℕ). suc steps ≤ 1 + read_to c.limit first u + len2) (sym same) (let few = h.few in omega (arith, few, next));
    }

    -- beyond the table
    to_nexts : (turn turn2 len : ℕ) → turn2 ≡ turn → len ≤ c.limit turn → HasRead incremental c first turn steps len → HasRead incremental c first turn2 (suc steps) (suc (c.limit turn2))
    to_nexts turn turn2 len same most h = record {
      from = subst (IsFrom incremental first) (sym same) h.from;
      made = subst (λ (u : ℕ). u < c.past) (sym same) h.made;
      few = subst (λ (u : ℕ). suc steps ≤ 1 + read_to c.limit first u + suc (c.limit u)) (sym same) (let few = h.few in omega (arith, few, most));
    }

-- the next table
to_behind : {K : Type 0} (c : Chart K) (first steps turn turn2 len : ℕ) → turn2 ≡ suc turn → len ≡ 0 → turn2 < c.past → HasRead true c first turn steps (suc (c.limit turn))
    → HasRead true c first turn2 (suc steps) len
to_behind c first steps turn turn2 len next none made h = record {
  from = (let from = h.from in omega (arith, from, next));
  made = made;
  few = subst (λ (u : ℕ). suc steps ≤ 1 + read_to c.limit first u + len) (sym next) (let few = h.few in let one = one_more c.limit first turn h.from in omega (arith, few, one, none));
}

module _ {K V : Type 0} (same : K → K → Bool) (hash : K → ℕ) (fits : (k : K) → hash k < 2 ^ 64) (mode : ResizeMode) (root : ℕ) (keys : K → Bool) (code : ℕ) (class : IsClass same hash keys code)
    (m : Mem (Node K V)) (c : Chart K) (blocks : Blocks) (map : IsMap same hash mode root m c blocks) (first steps : ℕ) (l : Lookup) where
  abbrev On : Lookup × Advance (Option ℕ) → Type 0
  On end = ReadsOn (is_incremental mode) c first (suc steps) end

  abbrev At : Looking → Type 0
  At stands = ReadsAt (is_incremental mode) c first (suc steps) stands

  -- a link that was read leads to the first try at its table, or nowhere
  link_reads : (link u : ℕ) → LeadsTo c blocks link u
      → ((trial : Trial) → trial.table.turn ≡ u → trial.probe.len ≡ 0 → u < c.past → At (at.Probes trial))
      → (end : Lookup × Advance (Option ℕ)) → Ends (value_at m) (table_read {K = K} {V = V} l link) end → On end
  link_reads link u leads enters end ends =
      by leads (ends_if (value_at m) (link == 0) (Now (answered l None)) (Seeing (link / 2048) (λ value. Now (going l (at.Probes (first_trial (table_seen link value) l.hash))))) end ends)
    where
      by : LeadsTo c blocks link u
          → (((link == 0) ≡ true) × (end ≡ answered l None))
          ⊎ (((link == 0) ≡ false) × ((value : Node K V) × (value_at m (link / 2048) ≡ Some value) × (end ≡ going l (at.Probes (first_trial (table_seen link value) l.hash)))))
          → On end
      by leads (inl e) = subst (λ x. On x) (sym e.1) tt
      by (inl nothing) (inr e) = absurd (eqb-false link 0 e.0 nothing.0)
      by (inr some) (inr e) =
          subst (λ x. On x) (sym e.1.2) (enters (first_trial (table_seen link e.1.0) l.hash) (turn_is c blocks (table_seen link e.1.0) u entered) refl some.1)
        where
          entered : IsTable c blocks (table_seen link e.1.0) u
          entered = subst (λ x. IsTable c blocks (table_seen x e.1.0) u) (sym some.0)
              (table_is hash m c blocks root map.shows u some.1 some.2 e.1.0 (subst (λ x. value_at m (x / 2048) ≡ Some e.1.0) some.0 e.1.1))

  root_reads : l.root ≡ root → first ≡ c.first → steps ≡ 0 → (m2 : Mem (Node K V)) (end : Lookup × Advance (Option ℕ)) → Steps Took value_at m (roots {K = K} {V = V} l) m2 end → On end
  root_reads root_is same_first none m2 end s =
      let r = loaded m (link_found l) (Root l.root) m2 end s in
      let read : word_at m (Root root) ≡ Some r.0 = ap (λ x. word_at m (Root x)) (sym root_is) ∙ r.1 in
      link_reads r.0 c.first (root_leads same hash mode root m c blocks map r.0 read) enters end r.3
    where
      enters : (trial : Trial) → trial.table.turn ≡ c.first → trial.probe.len ≡ 0 → c.first < c.past → At (at.Probes trial)
      enters trial turn len made = (
        from_root c blocks (is_incremental mode) first steps trial (same_first ∙ sym turn) (subst (λ (u : ℕ). u < c.past) (sym turn) made) none,
        omega (arith, len),
      )

  next_reads : (table : Table) (t : ℕ) → IsTable c blocks table t → is_incremental mode ≡ true → HasRead (is_incremental mode) c first table.turn steps (suc (c.limit table.turn))
      → (m2 : Mem (Node K V)) (end : Lookup × Advance (Option ℕ)) → Steps Took value_at m (nexts {K = K} {V = V} l table) m2 end → On end
  next_reads table t entered incremental h m2 end s =
      let r = loaded m (link_found l) (at_word table NEXT) m2 end s in
      link_reads r.0 (suc t) (next_leads same hash mode root m c blocks map table t r.0 entered r.1) enters end r.3
    where
      enters : (trial : Trial) → trial.table.turn ≡ suc t → trial.probe.len ≡ 0 → suc t < c.past → At (at.Probes trial)
      enters trial turn len made = (
        subst (λ (b : Bool). HasRead b c first trial.table.turn (suc steps) trial.probe.len) (sym incremental)
            (to_behind c first steps table.turn trial.table.turn trial.probe.len (turn ∙ sym (ap (λ (u : ℕ). suc u) (turn_is c blocks table t entered))) len
            (subst (λ (u : ℕ). u < c.past) (sym turn) made)
            (subst (λ (b : Bool). HasRead b c first table.turn steps (suc (c.limit table.turn))) incremental h)),
        omega (arith, len),
      )

  module _ (hash_is : l.hash ≡ code) (trial : Trial) (t j : ℕ) (tries : IsTrial c blocks trial code t j) (h : HasRead (is_incremental mode) c first trial.table.turn steps trial.probe.len) where
    sees : SeesPlace hash keys code m c blocks trial t (c.place t (spot_at (c.len t) code j))
    sees = sees_place same hash fits mode root keys code class m c blocks map trial t j tries

    beyond_reads : (b : Bool) → On (if b then going l (at.Nexts trial.table) else answered l None)
    beyond_reads true = to_nexts c blocks (is_incremental mode) first steps trial.table.turn trial.table.turn trial.probe.len refl (low c blocks trial code t j tries) h
    beyond_reads false = tt

    passed_reads : (next : Option Trial) → IsNext c blocks code t next j → On (passed l trial.table next)
    passed_reads (Some other) further = (
      on_probes c blocks (is_incremental mode) first steps trial.table.turn other.table.turn trial.probe.len other.probe.len
          (turn_is c blocks other.table t further.table ∙ sym (turn_is c blocks trial.table t tries.table))
          (further.try ∙ ap (λ (x : ℕ). suc x) (sym tries.try)) h,
      low c blocks other code t (suc j) further,
    )
    passed_reads None further = beyond_reads (is_incremental l.mode)

    told_reads : (word : ℕ) (f : Finding) → On (after_finding l trial word f)
    told_reads word is.Free = tt
    told_reads word is.Passed =
        passed_reads (next_trial trial) (next_is c blocks code t trial j tries sees.sized (map.rule.common.lens t tries.table.made).1)
    told_reads word is.Moved = beyond_reads true
    told_reads word is.Copying = tt
    told_reads word is.There = tt

    probes_read : (m2 : Mem (Node K V)) (end : Lookup × Advance (Option ℕ)) → Steps Took value_at m (probes {K = K} {V = V} keys l trial) m2 end → On end
    probes_read m2 end s =
        (probes_tell hash keys code m c blocks l hash_is trial t (c.place t (spot_at (c.len t) code j)) sees (λ x. On x)
        (λ same_key tells. told_reads (place_word hash c blocks (c.place t (spot_at (c.len t) code j)))
        (finding l.mode Looks (place_word hash c blocks (c.place t (spot_at (c.len t) code j))) same_key)) m2 end s).1

module _ (K V : Type 0) (same : K → K → Bool) (hash : K → ℕ) where
  pub lookups_read_on : LookupsReadOn K V same hash
  lookups_read_on are mode root keys code m c blocks l class map facts first steps rooted reads m2 end s = by l.stands facts.point rooted reads s
    where
      by : (stands : Looking) → LookingFacts same hash mode root keys code c blocks stands → IsRootOf c first stands → ReadsAt (is_incremental mode) c first steps stands
          → Steps Took value_at m (plan_at {K = K} {V = V} keys l stands) m2 end → ReadsOn (is_incremental mode) c first (suc steps) end
      by at.Roots point rooted reads s = root_reads same hash are.fits mode root keys code class m c blocks map first steps l facts.root_is rooted reads m2 end s
      by (at.Probes trial) point rooted reads s =
          probes_read same hash are.fits mode root keys code class m c blocks map first steps l facts.hash_is trial point.0 point.1 point.2 reads.0 m2 end s
      by (at.Nexts table) point rooted reads s =
          next_reads same hash are.fits mode root keys code class m c blocks map first steps l table point.1 point.2 point.0 reads m2 end s
      by (at.Over found) point rooted reads s = absurd point

  -- what it knows of keys is not needed for that
  pub late_reads_on : AreLawful same hash → (mode : ResizeMode) (root : ℕ) (keys asked : K → Bool) (code began : ℕ) (m : Mem (Node K V)) (c : Chart K) (blocks : Blocks) (l : Lookup)
      → IsClass same hash asked code → IsMap same hash mode root m c blocks → SupersededLookupFacts same hash keys code c blocks began mode root l
      → (first steps : ℕ) → ReadsAt (is_incremental mode) c first steps l.stands
      → (m2 : Mem (Node K V)) (end : Lookup × Advance (Option ℕ)) → Steps Took value_at m (lookup_plan asked l) m2 end
      → ReadsOn (is_incremental mode) c first (suc steps) end
  late_reads_on are mode root keys asked code began m c blocks l class map facts first steps reads m2 end s = by l.stands facts.point reads s
    where
      by : (stands : Looking) → SupersededLooking same hash keys code c blocks began stands → ReadsAt (is_incremental mode) c first steps stands
          → Steps Took value_at m (plan_at {K = K} {V = V} asked l stands) m2 end → ReadsOn (is_incremental mode) c first (suc steps) end
      by at.Roots point reads s = absurd point
      by (at.Probes trial) point reads s =
          probes_read same hash are.fits mode root asked code class m c blocks map first steps l facts.hash_is trial point.0 point.1 point.2 reads.0 m2 end s
      by (at.Nexts table) point reads s = absurd point
      by (at.Over found) point reads s = absurd point
