-- A lookup reads the word of a try, and goes on by what stands there.
use Rattle.std.specs.Prelude.{if◌then◌else◌}
use Rattle.std.proofs.Common.{◌≡◌, ℕ, suc, ◌^◌, ◌<◌, ◌≤◌, Bool, true, false, Option, Some, None, inl, inr, refl, ap, sym, subst, ◌∙◌, arith}
use Rattle.map_rule.specs.Given.SeizeWordsMem.{Mem, value_at, Took}
use Rattle.map_rule.specs.Given.SeizeWordsPlan.{Steps}
use Rattle.papaya_raw.specs.Given.SeizeDeclared.advance.Advance.{Advance}
use Rattle.papaya_raw.specs.Given.TablesChunks.{is_incremental}
use Rattle.papaya_raw.specs.Given.TablesFinding.{finding}
use Rattle.map_rule.specs.Given.ResizeLookup.{answered, going, beyond, passed, after_finding, told, probes}
use Rattle.papaya_raw.specs.Given.TablesTrials.{next_trial}
use Rattle.papaya_raw.specs.Given.TablesDeclared.node.Node.{Node}
use Rattle.papaya_raw.specs.Given.TablesDeclared.resize_mode.ResizeMode.{ResizeMode}
use Rattle.papaya_raw.specs.Given.TablesDeclared.table.Table.{Table}
use Rattle.papaya_raw.specs.Given.TablesDeclared.finding.Aim.TheVariants.{Looks}
use Rattle.papaya_raw.specs.Given.TablesDeclared.finding.Finding.{Finding}
use Rattle.papaya_raw.specs.Given.TablesDeclared.finding.Finding.TheVariants as is
use Rattle.map_rule.specs.Given.ResizeDeclared.lookup.Lookup.{Lookup}
use Rattle.map_rule.specs.Given.ResizeDeclared.lookup.Looking.{Looking}
use Rattle.map_rule.specs.Given.ResizeDeclared.lookup.Looking.TheVariants as at
use Rattle.papaya_raw.specs.Given.TablesDeclared.trial.Trial.{Trial}
use Rattle.map_rule.specs.Chart.{Chart}
use Rattle.map_rule.specs.Rule.{IsLawful, Rule}
use Rattle.map_rule.specs.Words.{Blocks, place_word}
use Rattle.map_rule.specs.Maps.{spot_at, spot_of, IsClass, IsTrial, NoneBefore}
use Rattle.map_facts.specs.FactsLooks.{LookupFacts, LookingFacts}
use Rattle.map_facts.specs.Told.{LookupOutcome}
use Rattle.map_facts.specs.MeasuresLooks.{LookupLeads}
use Rattle.map_rule.proofs.Words.PlacesShown.{shown_byte}
use Rattle.map_facts.proofs.Lookups.Reads.{SeesPlace, probes_tell}
use Rattle.map_rule.proofs.Keys.TriesSeen.{IsNext, next_is, spot_inside}
use Rattle.map_rule.proofs.Words.WordsSeen.{Tells, Says, says}
use Rattle.map_rule.proofs.Keys.ClassesSeen.{none_further}
use Rattle.map_rule.proofs.Keys.ClassesFound.{absent_free, pair_there}
use Rattle.map_rule.proofs.Keys.ClassesBeyond.{shut_beyond, absent_beyond, shut_after}

module _ {K V : Type 0} (same : K → K → Bool) (hash : K → ℕ) (lawful : IsLawful same (spot_of hash)) (fits : (k : K) → hash k < 2 ^ 64) (mode : ResizeMode) (root : ℕ) (keys : K → Bool) (code : ℕ)
    (class : IsClass same hash keys code) (m : Mem (Node K V)) (c : Chart K) (blocks : Blocks) (rule : Rule same (spot_of hash) (is_incremental mode) c) where
  abbrev Facts : Lookup → Type 0
  Facts l = LookupFacts same hash mode root keys code c blocks l

  abbrev Told : Lookup × Advance (Option ℕ) → Type 0
  Told end = LookupOutcome same hash mode root keys code c blocks end

  -- it goes on elsewhere
  went_on : (l : Lookup) → Facts l → (stands : Looking) → LookingFacts same hash mode root keys code c blocks stands → Told (going l stands)
  went_on l facts stands point = record { root_is = facts.root_is; mode_is = facts.mode_is; hash_is = facts.hash_is; point = point }

  module _ (l : Lookup) (facts : Facts l) (trial : Trial) (t j : ℕ) (tries : IsTrial c blocks trial code t j) (none : NoneBefore same hash (is_incremental mode) c keys t j)
      (rooted : is_incremental mode ≡ false → t ≡ c.first) (sees : SeesPlace hash keys code m c blocks trial t (c.place t (spot_at (c.len t) code j))) where
    -- with where it leads
    abbrev ToldHere : Lookup × Advance (Option ℕ) → Type 0
    ToldHere end = Told end × LookupLeads (at.Probes trial) end

    -- the try is none too many
    most : trial.probe.len ≤ trial.table.limit
    most = let try = tries.try in let limit = ap (λ (x : Table). x.limit) tries.table.is in let low = tries.most in omega (arith, try, limit, low)

    made : t < c.past
    made = tries.table.made

    abbrev i : ℕ
    i = spot_at (c.len t) code j

    inside : i < c.len t
    inside = spot_inside (c.len t) code j (rule.common.lens t made).0

    -- all tries at the table are made
    went_beyond : NoneBefore same hash (is_incremental mode) c keys t (suc (c.limit t)) → ToldHere (beyond l trial.table)
    went_beyond all = by_mode (is_incremental l.mode) refl
      where
        by_mode : (b : Bool) → is_incremental l.mode ≡ b → ToldHere (if b then going l (at.Nexts trial.table) else answered l None)
        by_mode true e =
            let is : is_incremental mode ≡ true = ap is_incremental (sym facts.mode_is) ∙ e in
            (went_on l facts (at.Nexts trial.table) (is, t, tries.table, shut_beyond same hash lawful keys code class c (is_incremental mode) is rule t all), (refl, most))
        by_mode false e =
            (absent_beyond same hash lawful keys code class c (is_incremental mode) (ap is_incremental (sym facts.mode_is) ∙ e) rule t all, tt)

    -- the try was passed
    went_passed : NoneBefore same hash (is_incremental mode) c keys t (suc j) → (next : Option Trial) → IsNext c blocks code t next j → ToldHere (passed l trial.table next)
    went_passed further (Some other) is = (
      went_on l facts (at.Probes other) (t, suc j, is, further, rooted),
      (
        is.table.is ∙ sym tries.table.is,
        is.try ∙ ap (λ (x : ℕ). suc x) (sym tries.try),
        (let try = is.try in let limit = ap (λ (x : Table). x.limit) tries.table.is in let low = is.most in omega (arith, try, limit, low)),
      ),
    )
    went_passed further None is = went_beyond (subst (λ x. NoneBefore same hash (is_incremental mode) c keys t (suc x)) is further)

    -- by what was found
    went_told : (f : Finding) → Says keys c.key (c.place t i) (is_incremental mode) Looks f → ToldHere (after_finding l trial (place_word hash c blocks (c.place t i)) f)
    went_told is.Free says = (absent_free same hash lawful keys code class c (is_incremental mode) rule t j Looks tries.most inside none says, tt)
    went_told is.Passed says =
        went_passed (none_further same hash lawful keys code class c t j (is_incremental mode) none sees.has_key says) (next_trial trial)
        (next_is c blocks code t trial j tries sees.sized (rule.common.lens t made).1)
    went_told is.Moved (inl s) = (
      went_on l facts (at.Nexts trial.table)
          (s.0, t, tries.table, shut_after same hash lawful keys code class c (is_incremental mode) s.0 rule t j i s.1 s.2 none s.3),
      (refl, most),
    )
    went_told is.Moved (inr s) = absurd (s.1 refl)
    went_told is.Copying says = absurd (says.1 refl)
    went_told is.There says = (
      (
        says.0,
        says.1,
        says.2,
        pair_there same hash lawful keys code class c (is_incremental mode) rule t i j inside none says.0 says.1 says.2 says.3 says.5,
        ap (place_word hash c blocks) says.3.0,
      ),
      tt,
    )

    -- by whether its pair is one of the keys
    went_same : (same_key : Bool) → Tells keys c.key (c.place t i) same_key → ToldHere (told l trial (place_word hash c blocks (c.place t i)) same_key)
    went_same same_key tells =
        subst (λ x. ToldHere (after_finding l trial (place_word hash c blocks (c.place t i)) (finding x Looks (place_word hash c blocks (c.place t i)) same_key))) (sym facts.mode_is)
        (went_told (finding mode Looks (place_word hash c blocks (c.place t i)) same_key)
        (says keys c.key blocks.pair _ mode Looks (c.place t i) same_key sees.has_block
        (shown_byte hash fits c.key (c.place t i)) sees.has_key tells))

    pub went_probes : (m2 : Mem (Node K V)) (end : Lookup × Advance (Option ℕ)) → Steps Took value_at m (probes {K = K} {V = V} keys l trial) m2 end → (m2 ≡ m) × ToldHere end
    went_probes = probes_tell hash keys code m c blocks l facts.hash_is trial t (c.place t i) sees ToldHere went_same
