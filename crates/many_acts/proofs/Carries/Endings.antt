-- Whose a block is that users have, and behind which something may be put, as a map begins to end, and over each step of its end.
use Rattle.std.specs.Prelude.{◌≢◌, Option, Some, None}
use Rattle.std.proofs.Common.{◌≡◌, ℕ, zero, suc, ◌<◌, ◌≤◌, Bool, false, [], ◌⊎◌, inl, inr, refl, arith, ap, sym, subst, ◌∙◌}
use Rattle.std.proofs.lemmas.Bool.{cases_eq}
use Rattle.run_shows.specs.Given.SeizeWordsMem.{value_at}
use Rattle.run_shows.specs.Given.SeizeWorld.{World, Row, times, with_at}
use Rattle.seize_acts.specs.Acts.Reclaimed.{IsStillHad}
use Rattle.run_shows.specs.Given.TablesDeclared.node.Node.{Node}
use Rattle.run_shows.specs.Given.RuleChart.{Chart}
use Rattle.run_shows.specs.Given.RuleWords.{Blocks}
use Rattle.owner_facts.specs.Given.CallersTogether.{UnderWay}
use Rattle.owner_facts.proofs.Given.CallersTogether.At.{at_other, at_same}
use Rattle.owner_facts.specs.Given.FinishesEndings.{Finishing, HasFinished, finishing_of}
use Rattle.owner_facts.specs.Given.FinishesFactsEnds.{back_of, from_table, taken_by, left_by}
use Rattle.owner_facts.specs.Given.FinishesMakings.{Beginning}
use Rattle.owner_facts.specs.Given.FinishesMaps.{Standing}
use Rattle.owner_facts.proofs.Given.FinishesEnds.CountedBlocks.{some_last, times-append}
use Rattle.owner_facts.proofs.Given.FinishesEnds.OrdersOn.{table_later}
use Rattle.run_shows.specs.Reclaims.Left.{ContinuesBy}
use Rattle.many_acts.specs.Carries.Promises.{EndingsBeginAndPreserveTheirs, EndingsPreserveTheirs}
use Rattle.many_acts.specs.Carries.Theirs.{CanCarry, IsTheirs, AllAreTheirs}
use Rattle.many_acts.proofs.Carries.Owed.{one_some, stays_so, owed_on}

-- once a map has ended all its tables are reclaimed
table_back : {K V : Type 0} (f : Finishing K V) (t : ℕ) → f.chart.first ≤ t → t < f.chart.past → 0 < times (f.blocks.table t) (back_of f.setting f.chart f.blocks (λ u. []) false)
table_back f t from made = some_last (f.blocks.table t) _ (from_table f.setting f.chart f.blocks (λ u. []) false f.chart.first) (table_later f.setting f.chart f.blocks (λ u. []) false t f.chart.first from made)

module _ {K Q : Type 0} (V : Type 0) (same : K → K → Bool) (asks : Q → K → Bool) (batch_size roots : ℕ) (slot : ℕ → ℕ)
    (w : World (Node K V)) (maps : ℕ → Option (Standing K)) (calls : ℕ → ℕ → Option (UnderWay K V Q)) (makers : ℕ → Option (Beginning K)) (enders : ℕ → Option (Finishing K V)) where
  pub endings_begin_and_keep_theirs : EndingsBeginAndPreserveTheirs V same asks batch_size roots slot w maps calls makers enders
  endings_begin_and_keep_theirs theirs i none m s here no_calls w2 h b can =
      by (theirs b (subst (λ (v : World (Node K V)). IsStillHad (v.hand b)) h can.0, can.1, can.2, ap (λ (v : World (Node K V)). value_at v.memory b) (sym h) ∙ can.3, can.4))
    where
      enders2 : ℕ → Option (Finishing K V)
      enders2 = with_at enders i (Some (finishing_of s w))

      maps2 : ℕ → Option (Standing K)
      maps2 = with_at maps m None

      elsewhere : (n j : ℕ) (u : UnderWay K V Q) → calls n j ≡ Some u → n ≢ m
      elsewhere n j u under e = let no = no_calls j in let has : calls m j ≡ Some u = ap (λ (k : ℕ). calls k j) (sym e) ∙ under in cc (no, has)

      by : IsTheirs w maps calls enders b → IsTheirs w2 maps2 calls enders2 b
      by (inl (n, r, is, t, from, made, at)) = at_map (cases_eq n m)
        where
          at_map : (n ≡ m) ⊎ (n ≢ m) → IsTheirs w2 maps2 calls enders2 b
          at_map (inr ne) = inl (n, r, at_other maps m None n ne ∙ is, t, from, made, at)
          at_map (inl e) =
              let it : r ≡ s = one_some (maps n) r s is (ap maps e ∙ here) in
              inr (inr (
                i,
                finishing_of s w,
                at_same enders i (Some (finishing_of s w)) i refl,
                t,
                subst (λ (x : Standing K). x.chart.first ≤ t) it from,
                subst (λ (x : Standing K). t < x.chart.past) it made,
                subst (λ (x : Standing K). b ≡ x.blocks.table t) it at,
                refl,
              ))
      by (inr (inl owed)) =
          inr (inl (owed_on w w2 maps maps2 calls enders enders2 b
          (λ n j u under. ((λ rests. ap (λ (v : World (Node K V)). v.row j) h ∙ rests), λ r is. (r, at_other maps m None n (elsewhere n j u under) ∙ is, stays_so r))) owed))
      by (inr (inr (j, f, ends, t, from, made, at, none_so))) =
          inr (inr (j, f, at_other enders i (Some (finishing_of s w)) j (λ e. let no = none in let has : enders i ≡ Some f = ap enders (sym e) ∙ ends in cc (no, has)) ∙ ends, t, from, made, at, none_so))

  pub endings_keep_theirs : EndingsPreserveTheirs V same asks batch_size roots slot w maps calls makers enders
  endings_keep_theirs theirs i f ends m2 end st = (goes_on, over)
    where
      w2 : World (Node K V)
      w2 = st.w2

      -- what can carry then is none that it has reclaimed, or left over, and could before
      not_taken : (b : ℕ) → CanCarry w2 maps calls enders b → times b (taken_by st.deed) ≡ 0
      not_taken b can = by (times b (taken_by st.deed)) refl
        where
          by : (k : ℕ) → times b (taken_by st.deed) ≡ k → times b (taken_by st.deed) ≡ 0
          by zero e = e
          by (suc k) e = absurd (let gone = st.spares.gone b (omega (arith, e)) in let there = can.3 in cc (gone, there))

      not_left : (b : ℕ) → CanCarry w2 maps calls enders b → times b (left_by st.deed) ≡ 0
      not_left b can = by (times b (left_by st.deed)) refl
        where
          by : (k : ℕ) → times b (left_by st.deed) ≡ k → times b (left_by st.deed) ≡ 0
          by zero e = e
          by (suc k) e = absurd (subst IsStillHad (st.spares.left b (omega (arith, e))) can.0)

      could : (b : ℕ) → CanCarry w2 maps calls enders b → CanCarry w maps calls enders b
      could b can =
          let taken = not_taken b can in
          (subst IsStillHad (st.spares.hands b taken (not_left b can)) can.0, can.1, can.2, sym (st.spares.values b taken) ∙ can.3, can.4)

      row_is : (j : ℕ) → w2.row j ≡ w.row j
      row_is j = ap (λ (r : ℕ → Row). r j) st.spares.rows

      -- whatever becomes of this end
      with_end : (next : Option (Finishing K V)) (b : ℕ) → ((t : ℕ) → f.chart.first ≤ t → t < f.chart.past → b ≡ f.blocks.table t → times b f.back ≡ 0 → IsTheirs w2 maps calls (with_at enders i next) b)
          → IsTheirs w maps calls enders b → IsTheirs w2 maps calls (with_at enders i next) b
      with_end next b its (inl linked) = inl linked
      with_end next b its (inr (inl owed)) =
          inr (inl (owed_on w w2 maps maps calls enders (with_at enders i next) b (λ n j u under. ((λ rests. row_is j ∙ rests), λ r is. (r, is, stays_so r))) owed))
      with_end next b its (inr (inr (j, g, is, t, from, made, at, none))) = by (cases_eq j i)
        where
          by : (j ≡ i) ⊎ (j ≢ i) → IsTheirs w2 maps calls (with_at enders i next) b
          by (inr ne) = inr (inr (j, g, at_other enders i next j ne ∙ is, t, from, made, at, none))
          by (inl e) =
              let it : g ≡ f = one_some (enders j) g f is (ap enders e ∙ ends) in
              its t (subst (λ (x : Finishing K V). x.chart.first ≤ t) it from) (subst (λ (x : Finishing K V). t < x.chart.past) it made)
              (subst (λ (x : Finishing K V). b ≡ x.blocks.table t) it at) (subst (λ (x : Finishing K V). times b x.back ≡ 0) it none)

      goes_on : (f2 : Finishing K V) → ContinuesBy V same asks batch_size roots slot w maps calls makers enders f st.deed f2 → AllAreTheirs w2 maps calls (with_at enders i (Some f2))
      goes_on f2 on b can = with_end (Some f2) b its (theirs b (could b can))
        where
          none_then : times b f.back ≡ 0 → times b f2.back ≡ 0
          none_then none =
              let sum = times-append b f.back (taken_by st.deed) in let is = ap (times b) on.back_is in let taken = not_taken b can in omega (arith, none, sum, is, taken)

          its : (t : ℕ) → f.chart.first ≤ t → t < f.chart.past → b ≡ f.blocks.table t → times b f.back ≡ 0 → IsTheirs w2 maps calls (with_at enders i (Some f2)) b
          its t from made at none =
              inr (inr (
                i,
                f2,
                at_same enders i (Some f2) i refl,
                t,
                subst (λ (c : Chart K). c.first ≤ t) (sym on.chart_is) from,
                subst (λ (c : Chart K). t < c.past) (sym on.chart_is) made,
                at ∙ ap (λ (x : Blocks). x.table t) (sym on.blocks_are),
                none_then none,
              ))

      over : HasFinished w2.memory f → AllAreTheirs w2 maps calls (with_at enders i None)
      over finished b can =
          with_end None b (λ t from made at none. absurd (
          let back = table_back f t from made in let is = ap (times b) finished.back_is in
          let it = ap (λ (x : ℕ). times x (back_of f.setting f.chart f.blocks (λ u. []) false)) at in omega (arith, back, is, it, none))) (theirs b (could b can))
