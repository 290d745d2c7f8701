-- A step of a row of the collector within a call on one key: by all that can be looked at then, the numbers of the call and its row are lower.
use Rattle.std.specs.Prelude.{◌≡◌, ℕ, ◌<◌, Bool, true, Option, Some}
use Rattle.std.proofs.Common.{List, inl, inr, refl, ap, sym, subst, ◌∙◌}
use Rattle.seize_words.specs.OneMemory.Mem.{Mem, Took, value_at}
use Rattle.seize_words.specs.OneMemory.Plan.{Steps}
use Rattle.seize.specs.World.{World, Row, Settles, Defers, IsInside}
use Rattle.seize.specs.declared.rows.settle.Settled.{Settled}
use Rattle.seize.specs.declared.rows.settle.Settled.TheVariants as settled
use Rattle.map_measures.proofs.Given.SeizeEndsSettling.Most.{is_going, goes_further}
use Rattle.map_tables.specs.declared.node.Node.{Node}
use Rattle.map_tables.specs.declared.setting.Setting.{Setting}
use Rattle.papaya_raw.specs.Call.{call_plan}
use Rattle.papaya_raw.specs.declared.machines.answer.Called.{Called}
use Rattle.papaya_raw.specs.declared.machines.answer.Called.TheVariants as called
use Rattle.papaya_raw.specs.declared.machines.call.KeyCall.{KeyCall}
use Rattle.map_measures.specs.Given.RuleChart.{Chart}
use Rattle.map_measures.specs.Given.RuleWords.{Blocks}
use Rattle.map_measures.specs.Given.PointsMeasures.{IsBelow}
use Rattle.owner_facts.specs.Given.PointsSteps.{AreLawful}
use Rattle.owner_facts.specs.Given.PointsTold.{IsRowOfCall}
use Rattle.map_measures.specs.Given.CallersRows.{row_of, once_over}
use Rattle.owner_facts.specs.Given.CallersSights.{Visible, IsPartOf}
use Rattle.owner_facts.specs.Given.CallersTogether.{UnderWay, CallOnKey, OnKey, Together}
use Rattle.map_measures.specs.Falls.Calls.{number_of_call}
use Rattle.map_measures.specs.Falls.Falls.{GoesFurther}
use Rattle.map_measures.proofs.Falls.Below.{below_followed}
use Rattle.map_measures.proofs.Falls.Laws.{rows_fall}
use Rattle.owner_whole.proofs.Whole.Rows.Account.{told_by, Account, Settling, Deferring, Over, Ends, account}
use Rattle.owner_whole.proofs.Lowers.Kept.{KeyLinks, key_kept}
use Rattle.owner_whole.proofs.Lowers.Rows.{left, with_left, settling_less, deferring_less, row_lowers}
use Rattle.owner_whole.proofs.Lowers.Within.{KeyWithin, key_within, key_at_row, key_behind}

-- a retirement that goes on does not wait
settles_on : {T : Type 0} (o : Settled T) → is_going o ≡ true → GoesFurther (told_by o) → goes_further o ≡ true
settles_on settled.Goes going goes = refl
settles_on settled.Waits going goes = absurd goes
settles_on (settled.Gave value) going goes = refl
settles_on settled.Done going goes = absurd (cc going)

module _ {K V Q : Type 0} (same : K → K → Bool) (hash : K → ℕ) (asks : Q → K → Bool) (setting : Setting) (slot : ℕ → ℕ) (lawful : AreLawful same hash)
    (w : World (Node K V)) (c : Chart K) (blocks : Blocks) (sights : ℕ → Visible) (calls : ℕ → Option (UnderWay K V Q)) (s : Together V same hash asks setting slot w c blocks sights calls)
    (i : ℕ) (inside : IsInside (w.uses (slot i))) (u : CallOnKey K V Q) (has : calls i ≡ Some (OnKey u)) (is_row : IsRowOfCall u.call.stands)
    (w2 : World (Node K V)) (blocks2 : Blocks) (part : IsPartOf c blocks2 blocks) (sights2 : ℕ → Visible) (calls2 : ℕ → Option (UnderWay K V Q))
    (then : Together V same hash asks setting slot w2 c blocks2 sights2 calls2) (inside2 : IsInside (w2.uses (slot i))) (u2 : CallOnKey K V Q) (has2 : calls2 i ≡ Some (OnKey u2))
    (m2 : Mem (Node K V)) (end : Called (Node K V)) (st : Steps Took value_at w.memory (call_plan asks same hash u.call) m2 (u2.call, end)) (goes : GoesFurther end) where
  in_row : KeyWithin same hash asks setting slot lawful w c blocks sights calls s i inside u
  in_row = key_within same hash asks setting slot lawful w c blocks sights calls s i inside u has is_row

  -- where it stands then its number is what it was by what could be looked at before
  kept : KeyLinks c blocks2 u2.call.stands → number_of_call hash c blocks2 u2.call ≡ number_of_call hash c blocks u2.call
  kept links = key_kept c blocks blocks2 part.tables part.tables_known then.ground.map.map.later hash u2.call u2.call.stands links

  abbrev Lower : KeyCall K V Q → Type 0
  Lower q = IsBelow (with_left (number_of_call hash c blocks2 q) m2 (row_of (slot i) q.stands)) (with_left (number_of_call hash c blocks u.call) w.memory (row_of (slot i) u.call.stands))

  still : (q : KeyCall K V Q) → q ≡ u2.call → IsRowOfCall q.stands → number_of_call hash c blocks q ≡ number_of_call hash c blocks u.call
      → (x y : Row) → row_of (slot i) u.call.stands ≡ x → row_of (slot i) q.stands ≡ y → left m2 y < left in_row.v.memory x → Lower q
  still q is row number x y row1 row2 less =
      row_lowers w.memory m2 (number_of_call hash c blocks u.call) (number_of_call hash c blocks2 q) (row_of (slot i) u.call.stands) (row_of (slot i) q.stands) x y
      (subst (λ (p : KeyCall K V Q). number_of_call hash c blocks2 p ≡ number_of_call hash c blocks p) (sym is)
      (kept (key_at_row same hash asks setting slot lawful w2 c blocks2 sights2 calls2 then i inside2 u2 has2 (subst (λ (p : KeyCall K V Q). IsRowOfCall p.stands) is row))) ∙ number) row1 row2
      (subst (λ (m : Mem (Node K V)). left m2 y < left m x) in_row.memory less)

  over : (q : KeyCall K V Q) → q ≡ u2.call → end ≡ called.Goes → (IsRowOfCall q.stands → ⊥) → q ≡ once_over u.call → Lower q
  over q is tells none past =
      elim (rows_fall V same hash asks u.call is_row w.memory m2 (u2.call, end) st goes c blocks) as (λ _. Lower q) [
        | inl same_row ↦ absurd (none (subst (λ (p : KeyCall K V Q). IsRowOfCall p.stands) (sym is) same_row.0))
        | inr fallen ↦ subst Lower (sym is) (below_followed (number_of_call hash c blocks2 u2.call) (number_of_call hash c blocks u.call) _ _
            (subst (λ (xs : List ℕ). IsBelow xs (number_of_call hash c blocks u.call)) (sym (kept (key_behind same hash asks setting slot lawful w2 c blocks2 sights2 calls2 then i inside2 u2 has2 fallen.0
            u.call.stands is_row (ap (λ (p : KeyCall K V Q). p.stands) (sym is ∙ past))))) fallen.1))
      ]

  by_account : (e : KeyCall K V Q × Called (Node K V)) → e ≡ (u2.call, end) → Account same hash asks (slot i) u.call in_row.v.memory m2 e → Lower e.0
  by_account e is (Settling x y o _ row settles going tells row2 on) =
      still e.0 (ap (λ (z : KeyCall K V Q × Called (Node K V)). z.0) is) on.is_row (on.number c blocks) (Settles x) (Settles y) row row2
      (settling_less setting.batch_size in_row.v in_row.came i m2 x y o (in_row.row_is ∙ row) settles
      (settles_on o going (subst GoesFurther (sym (ap (λ (z : KeyCall K V Q × Called (Node K V)). z.1) is) ∙ tells) goes)))
  by_account e is (Deferring x y o _ row defers not_done tells row2 on) =
      elim (deferring_less setting.batch_size in_row.v in_row.came i m2 (slot i) x y o (in_row.row_is ∙ row) defers) as (λ _. Lower e.0) [
        | inl less ↦ still e.0 (ap (λ (z : KeyCall K V Q × Called (Node K V)). z.0) is) on.is_row (on.number c blocks) (Defers (slot i) x) (Defers (slot i) y) row row2 less.1
        | inr done ↦ absurd (not_done done)
      ]
  by_account e is (Over _ tells none past alone) =
      over e.0 (ap (λ (z : KeyCall K V Q × Called (Node K V)). z.0) is) (sym (ap (λ (z : KeyCall K V Q × Called (Node K V)). z.1) is) ∙ tells) none past
  by_account e is (Ends answer _ tells none same_count tables) = absurd (subst GoesFurther (sym (ap (λ (z : KeyCall K V Q × Called (Node K V)). z.1) is) ∙ tells) goes)

  pub key_row_falls : Lower u2.call
  key_row_falls = by_account (u2.call, end) refl (account same hash asks (slot i) u.call in_row.v.memory m2 is_row (u2.call, end)
      (subst (λ (m : Mem (Node K V)). Steps Took value_at m (call_plan asks same hash u.call) m2 (u2.call, end)) (sym in_row.memory) st))
