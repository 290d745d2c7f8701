-- Each step of a lookup writes nothing, and leaves fewer tables, or fewer tries at the same one.
use Rattle.std.specs.Prelude.{◌/◌, ◌==◌, if◌then◌else◌, Option, None, Some}
use Rattle.std.proofs.Common.{◌≡◌, ℕ, suc, ◌-◌, Bool, true, false, inl, inr, ap, sym, subst, arith}
use Rattle.seize_words.specs.declared.at.At.TheVariants.{Root}
use Rattle.seize_words.specs.OneMemory.Mem.{Mem, Took, value_at}
use Rattle.seize_words.specs.OneMemory.Plan.{Now, Seeing, Steps}
use Rattle.seize_words.proofs.OneMemory.OneOwner.Operations.{loaded}
use Rattle.seize_words.proofs.OneMemory.Plans.{ends_if}
use Rattle.seize.specs.declared.advance.Advance.{Advance}
use Rattle.seize.specs.declared.advance.Advance.TheVariants as progress
use Rattle.map_tables.specs.Chunks.{is_incremental}
use Rattle.map_tables.specs.Finding.{finding, may_name}
use Rattle.map_tables.specs.Nodes.{table_seen}
use Rattle.map_tables.specs.TablePlaces.{at_word}
use Rattle.map_tables.specs.Trials.{first_trial, next_trial, place_tried}
use Rattle.map_tables.specs.declared.finding.Aim.TheVariants.{Looks}
use Rattle.map_tables.specs.declared.finding.Finding.{Finding}
use Rattle.map_tables.specs.declared.finding.Finding.TheVariants as is
use Rattle.map_tables.specs.declared.node.Node.{Node}
use Rattle.map_tables.specs.declared.setting.Setting.{Setting}
use Rattle.map_tables.specs.declared.table.Table.{Table}
use Rattle.map_tables.specs.declared.table_words.TheConstants.{NEXT}
use Rattle.map_tables.specs.declared.trial.Trial.{Trial}
use Rattle.map_machines.specs.Lookup.{going, answered, passed, after_finding, told, names_pair, link_found, word_found, plan_at, lookup_plan}
use Rattle.map_machines.specs.declared.lookup.Lookup.{Lookup}
use Rattle.map_machines.specs.declared.lookup.Looking.{Looking}
use Rattle.map_machines.specs.declared.lookup.Looking.TheVariants as at
use Rattle.many_calls.specs.Given.RuleChart.{Chart}
use Rattle.many_calls.specs.Given.RuleMaps.{IsTrial}
use Rattle.many_calls.specs.Given.RuleWords.{Blocks}
use Rattle.many_calls.proofs.Given.RuleKeys.TriesSeen.{IsNext, next_is}
use Rattle.many_calls.proofs.Given.RuleWords.LinksRead.{link_ends}
use Rattle.many_calls.proofs.Given.RuleWords.LinksSeen.{next_leads}
use Rattle.many_calls.specs.Given.PointsMeasures.{IsBelow}
use Rattle.many_calls.specs.Given.PointsMeasuresLooks.{number_at_looking, number_of_lookup}
use Rattle.map_measures.proofs.Falls.Kept.{keeps_still}
use Rattle.map_measures.proofs.Falls.Onward.{Onward, past_kept}
use Rattle.map_measures.proofs.Falls.Stands.{LookingStands}

module _ {K V : Type 0} (same : K → K → Bool) (hash : K → ℕ) (setting : Setting) (m : Mem (Node K V)) (c : Chart K) (blocks : Blocks) (m2 : Mem (Node K V)) (c2 : Chart K) (blocks2 : Blocks)
    (on : Onward same hash setting m c blocks m2 c2 blocks2) (l : Lookup) where
  -- if it goes on, its number is lower
  abbrev Lowers : Looking → Lookup × Advance (Option ℕ) → Type 0
  Lowers stands end = end.1 ≡ progress.Goes → IsBelow (number_of_lookup c2 end.0) (number_at_looking c stands)

  still : m2 ≡ m → c2.past ≡ c.past
  still is = past_kept same hash setting m c blocks m2 c2 blocks2 on (keeps_still setting.root c blocks m m2 is)

  by_end : (stands : Looking) (end e : Lookup × Advance (Option ℕ)) → end ≡ e → Lowers stands e → Lowers stands end
  by_end stands end e is = subst (λ x. Lowers stands x) (sym is)

  module _ (past : c2.past ≡ c.past) where
    -- a try
    module _ (trial : Trial) (t j : ℕ) (there : IsTrial c blocks trial l.hash t j) where
      turn : trial.table.turn ≡ t
      turn = ap (λ (x : Table). x.turn) there.table.is

      leaves : Lowers (at.Probes trial) (going l (at.Nexts trial.table))
      leaves goes = inr (ap (λ x. x - trial.table.turn) past, inl (omega arith))

      passes : (o : Option Trial) → IsNext c blocks l.hash t o j → Lowers (at.Probes trial) (passed l trial.table o)
      passes None is = by (is_incremental l.mode)
        where
          by : (b : Bool) → Lowers (at.Probes trial) (if b then going l (at.Nexts trial.table) else answered l None)
          by true = leaves
          by false = λ goes. absurd (cc goes)
      passes (Some other) is = λ goes.
          let turn2 = ap (λ (x : Table). x.turn) is.table.is in
          let limit = ap (λ (x : Table). x.limit) there.table.is in
          let limit2 = ap (λ (x : Table). x.limit) is.table.is in
          let try = there.try in let try2 = is.try in let most = is.most in
          inr (omega (arith, turn, turn2, past), inl (omega (arith, limit, limit2, try, try2, most)))

      by_finding : (word : ℕ) (x : Finding) → IsNext c blocks l.hash t (next_trial trial) j → Lowers (at.Probes trial) (after_finding l trial word x)
      by_finding word is.Free next = λ goes. absurd (cc goes)
      by_finding word is.Passed next = passes (next_trial trial) next
      by_finding word is.Moved next = leaves
      by_finding word is.Copying next = λ goes. absurd (cc goes)
      by_finding word is.There next = λ goes. absurd (cc goes)

      tells : (word : ℕ) (flag : Bool) → Lowers (at.Probes trial) (told l trial word flag)
      tells word flag =
          by_finding word (finding l.mode Looks word flag)
          (next_is c blocks l.hash t trial j there (on.map.shows.sized t there.table.made) (on.map.rule.common.lens t there.table.made).1)

  on_at : (keys : K → Bool) (stands : Looking) → LookingStands setting m c blocks l.hash stands → (end : Lookup × Advance (Option ℕ))
      → Steps Took value_at m (plan_at keys l stands) m2 end → (m2 ≡ m) × Lowers stands end
  on_at keys at.Roots facts end s =
      let d = loaded m (link_found l) (Root l.root) m2 end s in (
        d.2,
        elim (ends_if (value_at m) (d.0 == 0) (Now (answered l None)) (Seeing (d.0 / 2048) (λ value. Now (going l (at.Probes (first_trial (table_seen d.0 value) l.hash))))) end d.3) as (λ _. Lowers at.Roots end) [
          | inl h ↦ by_end at.Roots end _ h.1 (λ goes. absurd (cc goes))
          | inr h ↦ by_end at.Roots end _ h.1.2 (λ goes. inl (let past = still d.2 in omega (arith, past)))
        ],
      )
  on_at keys (at.Probes trial) facts end s =
      let d = loaded m (word_found keys l trial) (place_tried trial) m2 end s in (
        d.2,
        elim (ends_if (value_at m) (may_name l.hash d.0) (Seeing (d.0 / 2048) (λ value. Now (told l trial d.0 (names_pair keys value)))) (Now (told l trial d.0 false)) end d.3) as (λ _. Lowers (at.Probes trial) end) [
          | inl h ↦ by_end (at.Probes trial) end _ h.1.2 (tells (still d.2) trial facts.0 facts.1 facts.2 d.0 (names_pair keys h.1.0))
          | inr h ↦ by_end (at.Probes trial) end _ h.1 (tells (still d.2) trial facts.0 facts.1 facts.2 d.0 false)
        ],
      )
  on_at keys (at.Nexts table) facts end s =
      let d = loaded m (link_found l) (at_word table NEXT) m2 end s in
      let leads = next_leads same hash setting.mode setting.root m c blocks on.map table facts.0 d.0 facts.1 d.1 in (
        d.2,
        link_ends hash m c blocks setting.root on.map.shows d.0 (suc facts.0) leads (answered l None) (λ next. going l (at.Probes (first_trial next l.hash))) (Lowers (at.Nexts table))
            (λ last goes. absurd (cc goes))
            (λ next there goes. inl (
            let turn = ap (λ (x : Table). x.turn) facts.1.is in let turn2 = ap (λ (x : Table). x.turn) there.is in let made = facts.1.made in let past = still d.2 in
            omega (arith, turn, turn2, made, past))) end d.3,
      )
  on_at keys (at.Over found) facts end s = (s.0, by_end (at.Over found) end _ s.1 (λ goes. absurd (cc goes)))

  pub looked_on : (keys : K → Bool) → LookingStands setting m c blocks l.hash l.stands → (end : Lookup × Advance (Option ℕ)) → Steps Took value_at m (lookup_plan keys l) m2 end
      → (m2 ≡ m) × (end.1 ≡ progress.Goes → IsBelow (number_of_lookup c2 end.0) (number_of_lookup c l))
  looked_on keys stands end s = on_at keys l.stands stands end s
