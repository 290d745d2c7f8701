-- A wrong plan: an insertion that stores nothing, and answers that it has. Where all stand together, no step that leaves the memory as it was can answer so for
-- a call that began at this moment, and has changed nothing.
use Rattle.std.specs.Prelude.{◌≡◌, ℕ, Bool, Option, Some}
use Rattle.std.proofs.Common.{inl, inr, refl, ap, ◌∙◌, arith}
use Rattle.run_shows.specs.Given.SeizeWordsMem.{Mem, Took, value_at}
use Rattle.run_shows.specs.Given.SeizeWordsPlan.{Plan, Turn, Now, Steps}
use Rattle.run_shows.specs.Given.SeizeWorld.{World}
use Rattle.run_shows.specs.Given.TablesChunks.{is_incremental}
use Rattle.run_shows.specs.Given.TablesDeclared.node.Node.{Node}
use Rattle.run_shows.specs.Given.TablesDeclared.setting.Setting.{Setting}
use Rattle.run_shows.specs.Given.RawCallPoints.{answered_with}
use Rattle.run_shows.specs.Given.RawDeclared.machines.answer.Called.{Called}
use Rattle.run_shows.specs.Given.RawDeclared.machines.answer.KeyAnswer.TheVariants as answers
use Rattle.run_shows.specs.Given.RawDeclared.machines.call.KeyCall.{KeyCall}
use Rattle.run_shows.specs.Given.RuleChart.{Chart}
use Rattle.run_shows.specs.Given.RuleInWorld.{IsMapIn, Moved}
use Rattle.run_shows.specs.Given.RuleMaps.{spot_of}
use Rattle.run_shows.specs.Given.RuleMoves.{Move, Links, Stores, Replaces, Removes, Marks, MarksBlocking, Skips, Unmarks, Puts, Covers, PutsLate, Claims, Reclaims, Counts, GivesUp, Aborts, Promotes, Announces, after}
use Rattle.run_shows.specs.Given.RuleWords.{Blocks}
use Rattle.run_shows.proofs.Given.RuleWorld.WentTold.{went_as}
use Rattle.owner_facts.specs.Given.PointsSteps.{AreLawful}
use Rattle.run_shows.specs.Given.TellsSeen.{Seen, Unseen}
use Rattle.run_shows.specs.Given.TellsTells.{IsSeenAs, IsObserved}
use Rattle.run_shows.proofs.Given.TellsPromised.{still_steps_tell}
use Rattle.owner_facts.proofs.Given.CallersSights.Seen.{map_seen}
use Rattle.owner_facts.proofs.Given.CallersTogether.Fits.{map_in_slot}
use Rattle.owner_facts.specs.Given.CallersSights.{Visible, seen_by}
use Rattle.owner_facts.specs.Given.CallersTogether.{CallOnKey, UnderWay, OnKey, Together, StepsTogether, AnswersOnce, change_observed, in_slot}

-- a step that makes no change that is seen in words changes no pair of the map
module _ {K : Type 0} (T : Type 0) (same : K → K → Bool) (hash : K → ℕ) (setting : Setting) (caller : ℕ) (c : Chart K) (blocks : Blocks) (c2 : Chart K) (blocks2 : Blocks) where
  abbrev nothing_seen : Seen T
  nothing_seen = Unseen

  after_it : (move : Move K) → IsSeenAs hash setting c blocks c2 blocks2 move nothing_seen → (after (spot_of hash) (is_incremental setting.mode) move c).now ≡ c.now
  after_it (Links len limit) told = refl
  after_it (Stores t k j) told = absurd (cc told)
  after_it (Replaces t i k) told = absurd (cc (told.3))
  after_it (Removes t i) told = absurd (cc (told.3))
  after_it (Marks i p) told = refl
  after_it (MarksBlocking p) told = refl
  after_it (Skips i t p) told = refl
  after_it (Unmarks i p) told = refl
  after_it (Puts i p t k j) told = refl
  after_it (Covers i p) told = refl
  after_it (PutsLate t p n) told = refl
  after_it (Claims i t chunk) told = refl
  after_it (Reclaims t claim) told = refl
  after_it (Counts i t number) told = refl
  after_it (GivesUp i t) told = refl
  after_it (Aborts t) told = refl
  after_it (Promotes t) told = refl
  after_it (Announces t) told = refl

  same_moment : (moved : Moved same hash setting.mode caller c c2) → IsObserved hash setting c blocks c2 blocks2 same caller moved nothing_seen → c2.now ≡ c.now
  same_moment (inl is) told = ap (λ (x : Chart K). x.now) is
  same_moment (inr (move, allowed, is, by)) told = ap (λ (x : Chart K). x.now) is ∙ after_it move told

module _ {K V Q : Type 0} where
  -- it answers at its first step that its pair is stored
  abbrev claims_a_store : KeyCall K V Q → Plan (Node K V) (KeyCall K V Q × Called (Node K V))
  claims_a_store p = Turn (Now (answered_with p (answers.Stored p.own)))

module _ {K V Q : Type 0} (same : K → K → Bool) (hash : K → ℕ) (asks : Q → K → Bool) (setting : Setting) (slot : ℕ → ℕ) (lawful : AreLawful same hash)
    (w : World (Node K V)) (c : Chart K) (blocks : Blocks) (sights : ℕ → Visible) (calls : ℕ → Option (UnderWay K V Q)) (all : Together V same hash asks setting slot w c blocks sights calls)
    (i : ℕ) (u : CallOnKey K V Q) (here : calls i ≡ Some (OnKey u)) (begins : u.began ≡ c.now) where
  abbrev seen : Blocks
  seen = seen_by blocks (sights (slot i))

  is_map : IsMapIn same hash (in_slot setting (slot i)) w c seen
  is_map = map_seen same hash (in_slot setting (slot i)) w c blocks (sights (slot i)) (map_in_slot same hash setting w c blocks (slot i) all.ground.map)
      (all.ground.sight (slot i) (all.inside i (OnKey u) here)).0

  -- the law of steps does not hold of what it leaves
  pub claims_a_store_refused : (m2 : Mem (Node K V)) (p2 : KeyCall K V Q) (progress : Called (Node K V)) → Steps Took value_at w.memory (claims_a_store u.call) m2 (p2, progress)
      → StepsTogether V same hash asks setting slot w c blocks sights calls i u m2 p2 progress → ⊥
  claims_a_store_refused m2 p2 progress s step = by (step.answers (answers.Stored u.call.own) (ap (λ x. x.1) s.1))
    where
      now_is : step.went.c2.now ≡ c.now
      now_is =
          same_moment (Node K V) same hash (in_slot setting (slot i)) i c seen step.went.c2 step.went.blocks2 step.went.moved
          (still_steps_tell V same hash lawful.lawful lawful.fits (in_slot setting (slot i)) i w c seen m2 is_map
          (went_as same hash (in_slot setting (slot i)) i w c seen m2 _ (λ w2 c2 blocks2. Unit {0}) (λ w2 c2 blocks2 map moved alike told. tt) step.went) s.0)

      by : AnswersOnce V same hash asks setting slot step.went.w2 step.went.c2 step.went.blocks2 i u (change_observed V same hash asks setting slot step.went.told) (answers.Stored u.call.own) → ⊥
      by (fits, inl (unchanged, (m, from, to, never), leaves)) = never
      by (fits, inr ((m, from, before, changed), tells, stores)) = omega (arith, from, before, begins, now_is)
