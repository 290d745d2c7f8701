-- A sweep among the calls on its map is asked for the next pair, or told whether to keep a pair: all stand together.
use Rattle.std.specs.Prelude.{◌≡◌, ℕ, Bool, true, false, nat_lt, List, ◌∷◌, Option, Some, None, cond, if◌then◌else◌}
use Rattle.std.proofs.Common.{◌∙◌, ap, refl, sym, subst, inl, inr}
use Rattle.seize_model.specs.Given.SeizeWorld.{World, Rests, with_at}
use Rattle.seize_model.proofs.Given.SeizeRuleRows.Leaving.{with_same}
use Rattle.map_facts_late.specs.Given.TablesDeclared.node.Node.{Node}
use Rattle.map_facts_late.specs.Given.TablesDeclared.setting.Setting.{Setting}
use Rattle.map_facts_late.specs.Given.SweepsSweepPoints.{next_at, reply_at, standing, further}
use Rattle.map_facts_late.specs.Given.ReservesDeclared.sweep.Purpose.{Purpose}
use Rattle.map_facts_late.specs.Given.ReservesDeclared.sweep.Sweep.{Sweep}
use Rattle.map_facts_late.specs.Given.ReservesDeclared.sweep.Sweeping.{Sweeping}
use Rattle.map_facts_late.specs.Given.ReservesDeclared.sweep.Sweeping.TheVariants as at
use Rattle.map_facts_late.specs.Given.RuleChart.{Chart}
use Rattle.map_facts_late.specs.Given.RuleWords.{Blocks}
use Rattle.map_facts_late.specs.Given.RuleInWorld.{IsMapIn}
use Rattle.map_facts_late.specs.Given.PointsSteps.{AreLawful}
use Rattle.map_facts_late.specs.Covers.{NamesPair, CoversAt}
use Rattle.map_facts_late.specs.CoversSweeps.{DoneReplied}
use Rattle.map_facts_late.specs.FactsSweeps.{CopiesPairs, SweepFacts}
use Rattle.map_facts_late.specs.ToldSweeps.{IsRowOfSweep}
use Rattle.map_facts_late.proofs.Swept.Covers.Shows.{since_began, names_one}
use Rattle.map_facts_late.proofs.Swept.Laws.{sweeps_are_told, sweeps_are_told_on}
use Rattle.map_facts_late.proofs.Swept.Sweeps.Stands.{IsQuiet, quiet_further}
use Rattle.many_calls.specs.OverAll.{Verdict, verdict, CallOverAll, gone_on, with_verdict, SweepClaims, TriesAsReplied}
use Rattle.many_calls.specs.Sights.{Visible, seen_by}
use Rattle.many_calls.specs.Sweeps.{NamesPairSince, TakesReply, SweepRepliesPreserveTheInvariant, WalksStopTogether}
use Rattle.many_calls.specs.Together.{UnderWay, OverAll, in_slot, KnowsSweep, IsAtPoint, Together}
use Rattle.many_calls.proofs.Sights.Seen.{map_seen}
use Rattle.many_calls.proofs.Together.Few.{few_with, few_without, quiet_claims_none}
use Rattle.many_calls.proofs.Together.Fits.{map_in_slot, fits_some, fits_none, fits_of, stands_by}

-- where it is quiet it is about to remove nothing
pub quiet_tries : {K : Type 0} (hash : K → ℕ) (c : Chart K) (blocks : Blocks) (told : Option Verdict) (purpose : Purpose) (stage : Sweeping) → IsQuiet stage → TriesAsReplied hash c blocks told purpose stage
quiet_tries hash c blocks told purpose (at.Tries word) quiet = absurd quiet
quiet_tries hash c blocks told purpose _ quiet = tt

-- within a row it takes nothing
row_next : (stage : Sweeping) (p : Sweep) → IsRowOfSweep stage → next_at stage p ≡ p
row_next at.Ready p row = absurd row
row_next _ p row = refl

ready_quiet : (p : Sweep) → IsQuiet (next_at at.Ready p).stands
ready_quiet p = by (nat_lt p.place p.table.len)
  where
    by : (more : Bool) → IsQuiet (standing p (if more then at.Words else at.Over)).stands
    by true = tt
    by false = tt

module _ {K V Q : Type 0} (same : K → K → Bool) (hash : K → ℕ) (asks : Q → K → Bool) (setting : Setting) (slot : ℕ → ℕ) where
  module _ (lawful : AreLawful same hash) (w : World (Node K V)) (c : Chart K) (blocks : Blocks) (sights : ℕ → Visible) (calls : ℕ → Option (UnderWay K V Q))
      (s : Together V same hash asks setting slot w c blocks sights calls) (i : ℕ) (o : CallOverAll) (has : calls i ≡ Some (OverAll o)) where
    abbrev seen : Blocks
    seen = seen_by blocks (sights (slot i))

    abbrev its : Setting
    its = in_slot setting (slot i)

    abbrev With : CallOverAll → Type 0
    With x = Together V same hash asks setting slot w c blocks sights (with_at calls i (Some (OverAll x)))

    -- nothing changes
    unchanged : With o
    unchanged = subst (Together V same hash asks setting slot w c blocks sights) (sym (ap (with_at calls i) (sym has) ∙ with_same calls i)) s

    map : IsMapIn same hash its w c seen
    map = map_seen same hash its w c blocks (sights (slot i)) (map_in_slot same hash setting w c blocks (slot i) s.ground.map) (s.ground.sight (slot i) (s.inside i (OverAll o) has)).0

    module _ (rests : w.row i ≡ Rests) (k : KnowsSweep V same hash asks setting slot w c seen i o o.sweep) where
      goes_on : (x : CallOverAll) → KnowsSweep V same hash asks setting slot w c seen i x x.sweep → ((t : ℕ) → SweepClaims t x.sweep.stands → ⊥) → With x
      goes_on x knows claims =
          stands_by same hash asks setting slot w c blocks sights calls i (Some (OverAll x)) s.ground
          (fits_some same hash asks setting slot w c blocks (sights (slot i)) i (OverAll x) (s.inside i (OverAll o) has) (inl (rests, knows)))
          (λ j other. fits_of same hash asks setting slot w c blocks sights calls s j)
          (λ blocking. few_with calls i c (s.few blocking) (OverAll x) (λ writes. (OverAll o, has, tt)) claims) s.onto (λ none. absurd (cc none))

      -- asked for the next pair
      next_on : (stage : Sweeping) → o.sweep.stands ≡ stage → With (gone_on o (next_at stage o.sweep))
      next_on at.Ready is = goes_on (gone_on o (next_at at.Ready o.sweep)) (record {
        facts = subst (λ (x : Sweeping). SweepFacts same hash w i its c seen o.began (next_at x o.sweep)) is (sweeps_are_told V same hash its w i c seen o.began o.sweep map k.facts).0;
        began_before = k.began_before;
        from = k.from;
        covers = subst (λ (x : Sweeping). CoversAt hash c seen (next_at x o.sweep) o.entered o.done (next_at x o.sweep).stands) is
            (sweeps_are_told_on V same hash its w i c seen o.began o.sweep map k.facts o.entered o.done k.covers).0;
        tries = quiet_tries hash c seen o.told (next_at at.Ready o.sweep).purpose (next_at at.Ready o.sweep).stands (ready_quiet o.sweep);
      }) (quiet_claims_none (next_at at.Ready o.sweep).stands (ready_quiet o.sweep))
      next_on _ is = unchanged

      -- told whether to keep the pair that it asks about
      module _ (word : ℕ) (is : o.sweep.stands ≡ at.Asks word) where
        asked : CoversAt hash c seen o.sweep o.entered o.done (at.Asks word)
        asked = subst (CoversAt hash c seen o.sweep o.entered o.done) is k.covers

        about : NamesPairSince hash c seen o word
        about = (asked.1, asked.2, since_began hash c seen o.began o.entered k.from o.done o.sweep asked.1 asked.3.was)

        module _ (n : ℕ) (named : NamesPair hash c seen word n) where
          abbrev after : Bool → Sweep
          after keeps = reply_at (at.Asks word) o.sweep keeps

          -- what it has come to
          done_is : (keeps : Bool) (done2 : List ℕ) → DoneReplied hash c seen o.done done2 keeps (at.Asks word) → done2 ≡ cond keeps (n ∷ o.done) o.done
          done_is true done2 (m, names, e) = e ∙ ap (λ (x : ℕ). x ∷ o.done) (names_one hash lawful.fits w.memory c seen setting.root map.map.shows word m n names named)
          done_is false done2 e = e

          covers : (keeps : Bool) → CoversAt hash c seen (after keeps) o.entered (cond keeps (n ∷ o.done) o.done) (after keeps).stands
          covers keeps =
              let h = (sweeps_are_told_on V same hash its w i c seen o.began o.sweep map k.facts o.entered o.done k.covers).1 keeps in
              subst (λ (x : List ℕ). CoversAt hash c seen (after keeps) o.entered x (after keeps).stands)
              (done_is keeps h.0 (subst (DoneReplied hash c seen o.done h.0 keeps) is h.1))
              (subst (λ (x : Sweeping). CoversAt hash c seen (reply_at x o.sweep keeps) o.entered h.0 (reply_at x o.sweep keeps).stands) is h.2)

          tries : (keeps : Bool) → TriesAsReplied hash c seen (verdict n keeps) (after keeps).purpose (after keeps).stands
          tries true = quiet_tries hash c seen (verdict n true) (further o.sweep).purpose (further o.sweep).stands (quiet_further o.sweep)
          tries false = λ retains. (n, named, refl)

          claims : (keeps : Bool) (t : ℕ) → SweepClaims t (after keeps).stands → ⊥
          claims true t to = quiet_claims_none (further o.sweep).stands (quiet_further o.sweep) t to
          claims false t to = to

          abbrev told_with : Bool → Sweep → CallOverAll
          told_with keeps p = record { began = o.began; entered = o.entered; done = cond keeps (n ∷ o.done) o.done; told = verdict n keeps; sweep = p }

          replied : (keeps : Bool) → With (with_verdict o n keeps)
          replied keeps =
              subst (λ (x : Sweeping). With (told_with keeps (reply_at x o.sweep keeps))) (sym is)
              (goes_on (told_with keeps (after keeps)) (record {
                facts = subst (λ (x : Sweeping). SweepFacts same hash w i its c seen o.began (reply_at x o.sweep keeps)) is ((sweeps_are_told V same hash its w i c seen o.began o.sweep map k.facts).1 keeps);
                began_before = k.began_before;
                from = k.from;
                covers = covers keeps;
                tries = tries keeps;
              }) (claims keeps))

    by : IsAtPoint V same hash asks setting slot w c seen i (OverAll o) → TakesReply hash c seen o With
    by (inl (rests, k)) = record {
      next = next_on rests k o.sweep.stands refl;
      asks_about = about rests k;
      replied = λ word n is. replied rests k word is n;
    }
    by (inr (here, row, k)) = record {
      next = subst (λ (x : Sweep). With (gone_on o x)) (sym (row_next o.sweep.stands o.sweep row)) unchanged;
      asks_about = λ word is. absurd (subst IsRowOfSweep is row);
      replied = λ word n is. absurd (subst IsRowOfSweep is row);
    }

  pub sweeps_told_together : SweepRepliesPreserveTheInvariant V same hash asks setting slot
  sweeps_told_together lawful w c blocks sights calls s i o has = by lawful w c blocks sights calls s i o has (s.stand i (OverAll o) has)

  -- a walk that is ready copies nothing, and is within no row
  pub walks_stop_together : WalksStopTogether V same hash asks setting slot
  walks_stop_together w c blocks sights calls s i o has ready = by (s.stand i (OverAll o) has)
    where
      by : IsAtPoint V same hash asks setting slot w c (seen_by blocks (sights (slot i))) i (OverAll o) → Together V same hash asks setting slot w c blocks sights (with_at calls i None) × (w.row i ≡ Rests)
      by (inl (rests, k)) = (
        stands_by same hash asks setting slot w c blocks sights calls i None s.ground
            (fits_none same hash asks setting slot w c blocks (sights (slot i)) i (k.facts.idle (λ copies. subst CopiesPairs ready copies)))
            (λ j other. fits_of same hash asks setting slot w c blocks sights calls s j)
            (λ blocking. few_without calls i c (s.few blocking)) s.onto (λ none. rests),
        rests,
      )
      by (inr (here, row, k)) = absurd (subst IsRowOfSweep ready row)
