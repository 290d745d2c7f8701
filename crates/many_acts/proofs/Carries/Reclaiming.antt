-- Whose a block is that users have, and behind which something may be put, while a caller reclaims all; and what waits at its end.
use Rattle.std.specs.Prelude.{Option}
use Rattle.std.proofs.Common.{◌≡◌, ℕ, Bool, List, [], ◌∷◌, inl, inr, ◌⊎◌, ap, subst, ◌∙◌}
use Rattle.run_shows.specs.Given.SeizeWordsDeclared.at.At.{At}
use Rattle.run_shows.specs.Given.SeizeWordsDeclared.at.At.TheVariants.{Root, Used}
use Rattle.run_shows.specs.Given.SeizeWordsMem.{Mem, value_at}
use Rattle.run_shows.specs.Given.SeizeWordsOp.{Store}
use Rattle.run_shows.specs.Given.SeizeWorld.{World, Hand, NoBlock, Request, Event, Begin, Step, Happens, Runs, with_at}
use Rattle.seize_acts.specs.Acts.Reclaimed.{IsStillHad}
use Rattle.seize_acts.proofs.Given.SeizeEndsBatches.Rows.{begins_memory}
use Rattle.seize_acts.proofs.Given.SeizeRuleWorld.Values.{own_op_value, taken_value}
use Rattle.seize_acts.proofs.Given.SeizeAloneHistories.Reached.{Reached, happens_reached}
use Rattle.run_shows.specs.Given.TablesNodes.{deferred_word}
use Rattle.run_shows.specs.Given.TablesDeclared.node.Node.{Node}
use Rattle.run_shows.proofs.Given.RuleWorld.Hands.{at_cases}
use Rattle.owner_facts.specs.Given.CallersTogether.{UnderWay}
use Rattle.owner_facts.proofs.Given.CallersRows.Beside.{users_value}
use Rattle.owner_facts.proofs.Given.CallersTogether.Came.{came_reached}
use Rattle.owner_facts.specs.Given.FinishesEndings.{Finishing}
use Rattle.owner_facts.specs.Given.FinishesFactsEnds.{TakesLeft, WritesRoot, events_of}
use Rattle.owner_facts.specs.Given.FinishesMakings.{Beginning}
use Rattle.owner_facts.specs.Given.FinishesMaps.{Standing}
use Rattle.run_shows.specs.Reclaims.Slots.{IsForSlots, AreItsRows}
use Rattle.run_shows.proofs.Reclaims.Behind.Deferred.{waits_on_tables}
use Rattle.many_acts.specs.Carries.Promises.{ReclaimingPreservesTheirs, NothingElseWaits}
use Rattle.many_acts.proofs.Carries.Guards.{users_own, theirs_same, can_back, only_tables_carry}
use Rattle.many_acts.proofs.Carries.Hands.{begun_same, still_row}
use Rattle.run_shows.proofs.Reclaims.Behind.Kept.{of_slots}

module _ {K V : Type 0} (size i b : ℕ) where
  -- what users have then they had, with its value
  abbrev HadSo : World (Node K V) → World (Node K V) → Type 0
  HadSo w w2 = IsStillHad (w2.hand b) → (w2.hand b ≡ w.hand b) × (value_at w2.memory b ≡ value_at w.memory b)

  had_then : (w v w2 : World (Node K V)) → HadSo w v → HadSo v w2 → HadSo w w2
  had_then w v w2 first then still = let k = then still in let f = first (subst IsStillHad k.0 still) in (k.0 ∙ f.0, k.1 ∙ f.1)

  begun_had : (request : Request) → IsForSlots request → (w w2 : World (Node K V)) → Happens deferred_word size (Begin i request) w w2 → HadSo w w2
  begun_had request is w w2 h still = (
    ap (λ (f : ℕ → Hand). f b) (begun_same deferred_word size i request w w2 (of_slots request is) h.1).0,
    ap (λ (m : Mem (Node K V)). value_at m b) (begins_memory deferred_word size i request w w2 h.1),
  )

  step_had : (w w2 : World (Node K V)) → Reached deferred_word size w → Happens deferred_word size (Step i) w w2 → HadSo w w2
  step_had w w2 r h still =
      let hand = still_row deferred_word size w r i w2 h b still in
      (hand, users_value size w r i w2 h b (users_own (w.hand b) (subst IsStillHad hand still)))

  rows_had : (events : List (Event (Node K V))) → AreItsRows i events → (w w2 : World (Node K V)) → Reached deferred_word size w → Runs deferred_word size events w w2 → HadSo w w2
  rows_had [] own w w2 r runs = λ still. (ap (λ (x : World (Node K V)). x.hand b) runs, ap (λ (x : World (Node K V)). value_at x.memory b) runs)
  rows_had (Begin j request ∷ events) own w w2 r runs =
      let h = subst (λ (k : ℕ). Happens deferred_word size (Begin k request) w runs.0) own.0 runs.1 in
      had_then w runs.0 w2 (begun_had request own.1 w runs.0 h) (rows_had events own.2 runs.0 w2 (happens_reached deferred_word size (Begin i request) w runs.0 r h) runs.2)
  rows_had (Step j ∷ events) own w w2 r runs =
      let h = subst (λ (k : ℕ). Happens deferred_word size (Step k) w runs.0) own.0 runs.1 in
      had_then w runs.0 w2 (step_had w runs.0 r h) (rows_had events own.1 runs.0 w2 (happens_reached deferred_word size (Step i) w runs.0 r h) runs.2)
  rows_had (e ∷ events) own w w2 r runs = absurd own

  -- a block that was left over is taken away
  clears_had : (x : ℕ) (w w2 : World (Node K V)) → Runs deferred_word size (events_of i (TakesLeft x)) w w2 → HadSo w w2
  clears_had x w w2 (v, h, e) still =
      let at : w2 ≡ v = e in
      let hand : w2.hand b ≡ with_at w.hand x NoBlock b = ap (λ (y : World (Node K V)). y.hand b) at ∙ ap (λ (y : World (Node K V)). y.hand b) h.5 in
      at_cases (λ (k : Hand). IsStillHad k → w2.hand b ≡ k → (w2.hand b ≡ w.hand b) × (value_at w2.memory b ≡ value_at w.memory b)) w.hand x NoBlock b (λ same none is. absurd none)
      (λ ne kept is. (is, ap (λ (y : World (Node K V)). value_at y.memory b) at ∙ ap (λ (y : World (Node K V)). value_at y.memory b) h.5 ∙ taken_value deferred_word w.memory b x h.0 h.1 h.4 ne))
      (subst IsStillHad hand still) hand

  -- a word of a root is written
  writes_had : (name : At) (w w2 : World (Node K V)) → Runs deferred_word size (events_of i (WritesRoot name 0)) w w2 → HadSo w w2
  writes_had name w w2 (v, h, e) still = (
    ap (λ (y : World (Node K V)). y.hand b) e ∙ ap (λ (y : World (Node K V)). y.hand b) h.4,
    ap (λ (y : World (Node K V)). value_at y.memory b) e ∙ ap (λ (y : World (Node K V)). value_at y.memory b) h.4
        ∙ (ap (λ (m : Mem (Node K V)). value_at m b) h.3.1 ∙ own_op_value deferred_word w.memory b (Store name 0) h.0 h.2),
  )

module _ {K Q : Type 0} (V : Type 0) (same : K → K → Bool) (asks : Q → K → Bool) (batch_size roots : ℕ) (slot : ℕ → ℕ)
    (w : World (Node K V)) (maps : ℕ → Option (Standing K)) (calls : ℕ → ℕ → Option (UnderWay K V Q)) (makers : ℕ → Option (Beginning K)) (enders : ℕ → Option (Finishing K V)) where
  pub reclaiming_keeps_theirs : ReclaimingPreservesTheirs V same asks batch_size roots slot w maps calls makers enders
  reclaiming_keeps_theirs idle i lists point m2 c2 progress st theirs b can =
      theirs_same w st.w2 maps st.maps2 calls enders st.as_they_were (λ n j u under. absurd (let none = idle.no_calls n j in cc (none, under))) b
      (theirs b (can_back w st.w2 maps st.maps2 calls enders b (had st.its) can))
    where
      had : AreItsRows i st.events ⊎ (((x : ℕ) × (st.events ≡ events_of i (TakesLeft x)))
          ⊎ ((root : ℕ) × ((st.events ≡ events_of i (WritesRoot (Root root) 0)) ⊎ (st.events ≡ events_of i (WritesRoot (Used root) 0)))))
          → IsStillHad (st.w2.hand b) → (st.w2.hand b ≡ w.hand b) × (value_at st.w2.memory b ≡ value_at w.memory b)
      had (inl own) = rows_had batch_size i b st.events own w st.w2 (came_reached batch_size w idle.together.makings.standing.came) st.runs
      had (inr (inl (x, is))) = clears_had batch_size i b x w st.w2 (subst (λ (l : List (Event (Node K V))). Runs deferred_word batch_size l w st.w2) is st.runs)
      had (inr (inr (root, inl is))) = writes_had batch_size i b (Root root) w st.w2 (subst (λ (l : List (Event (Node K V))). Runs deferred_word batch_size l w st.w2) is st.runs)
      had (inr (inr (root, inr is))) = writes_had batch_size i b (Used root) w st.w2 (subst (λ (l : List (Event (Node K V))). Runs deferred_word batch_size l w st.w2) is st.runs)

  pub nothing_else_waits : NothingElseWaits V same asks batch_size roots slot w maps calls makers enders
  nothing_else_waits idle all theirs =
      waits_on_tables K V roots w maps all (only_tables_carry V same asks batch_size roots slot w maps calls makers enders idle.no_calls idle.no_enders theirs)
