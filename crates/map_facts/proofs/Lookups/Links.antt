-- The links that a lookup reads: where it enters a table, and where it ends as there is none.
use Rattle.std.specs.Prelude.{◌==◌, IsSome}
use Rattle.std.proofs.Common.{◌≡◌, ℕ, suc, ◌/◌, ◌≤◌, Bool, true, false, Option, Some, None, ◌⊎◌, inl, inr, refl, ap, sym, subst, ◌∙◌, eqb-true}
use Rattle.std.proofs.lemmas.Bool.{eqb-false}
use Rattle.map_rule.specs.Given.SeizeWordsDeclared.at.At.TheVariants.{Root}
use Rattle.map_rule.specs.Given.SeizeWordsMem.{Mem, value_at, word_at, Can, Took}
use Rattle.map_rule.specs.Given.SeizeWordsPlan.{May, MaySee, Steps, Ends, Now, Seeing}
use Rattle.map_rule.proofs.Given.SeizeWordsOneOwner.Operations.{may_load, loaded}
use Rattle.map_rule.proofs.Given.SeizeWordsPlans.{see_if, ends_if}
use Rattle.papaya_raw.specs.Given.SeizeDeclared.advance.Advance.{Advance}
use Rattle.papaya_raw.specs.Given.TablesChunks.{is_incremental}
use Rattle.map_rule.specs.Given.ResizeLookup.{answered, going, table_read, link_found, roots, nexts}
use Rattle.papaya_raw.specs.Given.TablesNodes.{table_seen}
use Rattle.papaya_raw.specs.Given.TablesTablePlaces.{at_word}
use Rattle.papaya_raw.specs.Given.TablesTrials.{first_trial}
use Rattle.papaya_raw.specs.Given.TablesDeclared.node.Node.{Node}
use Rattle.papaya_raw.specs.Given.TablesDeclared.resize_mode.ResizeMode.{ResizeMode}
use Rattle.papaya_raw.specs.Given.TablesDeclared.table.Table.{Table}
use Rattle.papaya_raw.specs.Given.TablesDeclared.table_words.TheConstants.{NEXT}
use Rattle.map_rule.specs.Given.ResizeDeclared.lookup.Lookup.{Lookup}
use Rattle.map_rule.specs.Given.ResizeDeclared.lookup.Looking.{Looking}
use Rattle.map_rule.specs.Given.ResizeDeclared.lookup.Looking.TheVariants as at
use Rattle.papaya_raw.specs.Given.TablesDeclared.trial.Trial.{Trial}
use Rattle.map_rule.specs.Chart.{Chart}
use Rattle.map_rule.specs.Rule.{IsLawful, ShutBefore}
use Rattle.map_rule.specs.Words.{Blocks, root_word, next_word}
use Rattle.map_rule.specs.Maps.{spot_of, IsClass, IsMap, IsTable, IsTrial, NoneBefore, IsAbsent}
use Rattle.map_facts.specs.FactsLooks.{LookupFacts}
use Rattle.map_facts.specs.Told.{LookupOutcome}
use Rattle.map_facts.specs.MeasuresLooks.{LoadLeads, LookupLeads}
use Rattle.map_rule.proofs.Words.TablesSeen.{link_seen, link_not_zero, table_is, next_there}
use Rattle.map_rule.specs.Links.{LeadsTo}
use Rattle.map_rule.proofs.Words.LinksSeen.{root_leads, next_leads}
use Rattle.map_rule.proofs.Keys.TriesSeen.{first_is}
use Rattle.map_rule.proofs.Keys.ClassesSeen.{absent_rootless}
use Rattle.map_rule.proofs.Keys.ClassesBeyond.{none_at_root, none_behind, absent_behind}
use Rattle.map_rule.proofs.Given.General.{some_is as is_some_of}

module _ {K V : Type 0} (same : K → K → Bool) (hash : K → ℕ) (lawful : IsLawful same (spot_of hash)) (mode : ResizeMode) (root : ℕ) (keys : K → Bool) (code : ℕ)
    (class : IsClass same hash keys code) (m : Mem (Node K V)) (c : Chart K) (blocks : Blocks) (map : IsMap same hash mode root m c blocks) (l : Lookup) where
  abbrev Facts : Lookup → Type 0
  Facts other = LookupFacts same hash mode root keys code c blocks other

  -- what is told of a step from here
  abbrev Told : Looking → Lookup × Advance (Option ℕ) → Type 0
  Told stands end = LookupOutcome same hash mode root keys code c blocks end × LookupLeads stands end

  -- a first try at the table with this turn may follow
  abbrev LeadsInto : Looking → ℕ → Type 0
  LeadsInto stands u = (trial : Trial) → trial.table.turn ≡ u → trial.probe.len ≡ 0 → LoadLeads stands (at.Probes trial)

  -- a link that was read may be followed
  may_enter : (link u : ℕ) → LeadsTo c blocks link u → MaySee (value_at m) (table_read {K = K} {V = V} l link)
  may_enter link u leads = see_if (value_at m) (link == 0) (Now (answered l None)) (Seeing (link / 2048) (λ value. Now (going l (at.Probes (first_trial (table_seen link value) l.hash)))))
      (λ e. tt) (λ e. (sees leads e, λ value is. tt))
    where
      sees : LeadsTo c blocks link u → (link == 0) ≡ false → IsSome (value_at m (link / 2048))
      sees (inl none) e = absurd (eqb-false link 0 e none.0)
      sees (inr some) e = subst (λ x. IsSome (value_at m (x / 2048))) (sym some.0) (link_seen hash m c blocks root map.shows u some.1 some.2)

  -- it leads into its table, or the keys have no pair
  went_in : (stands : Looking) (facts : Facts l) (link u : ℕ) → LeadsInto stands u → LeadsTo c blocks link u → (c.past ≤ u → IsAbsent same hash (is_incremental mode) c keys)
      → NoneBefore same hash (is_incremental mode) c keys u 0 → (is_incremental mode ≡ false → u ≡ c.first) → (end : Lookup × Advance (Option ℕ)) → Ends (value_at m) (table_read {K = K} {V = V} l link) end → Told stands end
  went_in stands facts link u into leads absent none rooted end ends =
      by_end leads (ends_if (value_at m) (link == 0) (Now (answered l None)) (Seeing (link / 2048) (λ value. Now (going l (at.Probes (first_trial (table_seen link value) l.hash))))) end ends)
    where
      by_end : LeadsTo c blocks link u
          → (((link == 0) ≡ true) × (end ≡ answered l None))
          ⊎ (((link == 0) ≡ false) × ((value : Node K V) × (value_at m (link / 2048) ≡ Some value) × (end ≡ going l (at.Probes (first_trial (table_seen link value) l.hash)))))
          → Told stands end
      by_end (inl nothing) (inl e) = subst (λ x. Told stands x) (sym e.1) (absent nothing.1, tt)
      by_end (inl nothing) (inr e) = absurd (eqb-false link 0 e.0 nothing.0)
      by_end (inr some) (inl e) = absurd (link_not_zero hash m c blocks root map.shows u some.1 some.2 (sym some.0 ∙ eqb-true link 0 e.0))
      by_end (inr some) (inr e) = subst (λ x. Told stands x) (sym e.1.2) (
        record { root_is = facts.root_is; mode_is = facts.mode_is; hash_is = facts.hash_is; point = (u, 0, trial, none, rooted) },
        into (first_trial (table_seen link e.1.0) l.hash) (ap (λ (x : Table). x.turn) entered.is) refl,
      )
        where
          entered : IsTable c blocks (table_seen link e.1.0) u
          entered = subst (λ x. IsTable c blocks (table_seen x e.1.0) u) (sym some.0)
              (table_is hash m c blocks root map.shows u some.1 some.2 e.1.0 (subst (λ x. value_at m (x / 2048) ≡ Some e.1.0) some.0 e.1.1))

          trial : IsTrial c blocks (first_trial (table_seen link e.1.0) l.hash) code u 0
          trial = subst (λ x. IsTrial c blocks (first_trial (table_seen link e.1.0) x) code u 0) (sym facts.hash_is)
              (first_is c blocks code u (table_seen link e.1.0) entered (map.shows.sized u some.1))

  -- it reads the root
  pub may_roots : Facts l → May Can Took value_at m (roots {K = K} {V = V} l)
  may_roots facts = may_load m (link_found l) (Root l.root) (is_some_of (word_at m (Root l.root)) (root_word hash c blocks) there) (λ w is. may_enter w c.first (leads w is))
    where
      there : word_at m (Root l.root) ≡ Some (root_word hash c blocks)
      there = ap (λ x. word_at m (Root x)) facts.root_is ∙ map.shows.root_there

      leads : (w : ℕ) → word_at m (Root l.root) ≡ Some w → LeadsTo c blocks w c.first
      leads w is = root_leads same hash mode root m c blocks map w (ap (λ x. word_at m (Root x)) (sym facts.root_is) ∙ is)

  pub went_roots : (facts : Facts l) (m2 : Mem (Node K V)) (end : Lookup × Advance (Option ℕ)) → Steps Took value_at m (roots {K = K} {V = V} l) m2 end → (m2 ≡ m) × Told at.Roots end
  went_roots facts m2 end s =
      let r = loaded m (link_found l) (Root l.root) m2 end s in
      let read : word_at m (Root root) ≡ Some r.0 = ap (λ x. word_at m (Root x)) (sym facts.root_is) ∙ r.1 in (
        r.2,
        went_in at.Roots facts r.0 c.first (λ trial turn first. first) (root_leads same hash mode root m c blocks map r.0 read)
            (absent_rootless same hash lawful keys code class (is_incremental mode) c map.rule)
            (none_at_root same hash lawful keys (is_incremental mode) c map.rule) (λ e. refl) end r.3,
      )

  -- it reads the link to the table behind one
  module _ (table : Table) (t : ℕ) (entered : IsTable c blocks table t) where
    pub may_nexts : May Can Took value_at m (nexts {K = K} {V = V} l table)
    may_nexts = may_load m (link_found l) (at_word table NEXT)
        (is_some_of (word_at m (at_word table NEXT)) (next_word hash c blocks t) (next_there hash m c blocks root map.shows table t entered))
        (λ w is. may_enter w (suc t) (next_leads same hash mode root m c blocks map table t w entered is))

    pub went_nexts : (facts : Facts l) → is_incremental mode ≡ true → ((k : K) → keys k ≡ true → ShutBefore same (spot_of hash) (is_incremental mode) c (suc t) k)
        → (m2 : Mem (Node K V)) (end : Lookup × Advance (Option ℕ)) → Steps Took value_at m (nexts {K = K} {V = V} l table) m2 end → (m2 ≡ m) × Told (at.Nexts table) end
    went_nexts facts is shut m2 end s =
        let r = loaded m (link_found l) (at_word table NEXT) m2 end s in (
          r.2,
          went_in (at.Nexts table) facts r.0 (suc t) (λ trial turn first. (turn ∙ sym (ap (λ (x : Table). suc x.turn) entered.is), first)) (next_leads same hash mode root m c blocks map table t r.0 entered r.1)
              (λ last. absent_behind same hash lawful keys code class c (is_incremental mode) is map.rule (suc t) last shut)
              (none_behind same hash lawful keys (is_incremental mode) c (suc t) is shut) (λ e. absurd (cc)) end r.3,
        )
