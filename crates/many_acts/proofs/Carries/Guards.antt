-- Whose a block is that users have, and behind which something may be put, over rows between calls; and at rest.
use Rattle.std.specs.Prelude.{Option, Some, None}
use Rattle.std.proofs.Common.{◌≡◌, ◌≢◌, ◌<◌, ◌≤◌, ℕ, Bool, inl, inr, refl, arith, ap, sym, subst, ◌∙◌}
use Rattle.run_shows.specs.Given.SeizeWordsMem.{Mem, value_at}
use Rattle.run_shows.specs.Given.SeizeWorld.{World, Hand, NoBlock, Making, InUse, Parting, Cutting, Handed, LeftTo, Request, Begin, Step, Happens}
use Rattle.seize_acts.specs.Acts.Reclaimed.{IsStillHad}
use Rattle.seize_acts.proofs.Given.SeizeRuleRows.Others.{begins_others, steps_others}
use Rattle.seize_acts.proofs.Given.SeizeEndsBatches.Rows.{begins_memory}
use Rattle.seize_acts.proofs.Given.SeizeAloneHistories.Reached.{Reached}
use Rattle.run_shows.specs.Given.TablesNodes.{deferred_word}
use Rattle.run_shows.specs.Given.TablesDeclared.node.Node.{Node}
use Rattle.run_shows.specs.Given.RuleChart.{Chart}
use Rattle.owner_facts.specs.Given.CallersKept.{IsUsersOwn}
use Rattle.owner_facts.specs.Given.CallersTogether.{UnderWay, IsOfSlots}
use Rattle.owner_facts.proofs.Given.CallersRows.Beside.{users_value}
use Rattle.owner_facts.proofs.Given.CallersTogether.Came.{came_reached}
use Rattle.owner_facts.specs.Given.FinishesEndings.{Finishing}
use Rattle.owner_facts.specs.Given.FinishesMakings.{Beginning}
use Rattle.owner_facts.specs.Given.FinishesMaps.{Standing, IsSameMap, with_call}
use Rattle.run_shows.specs.Reclaims.Deferred.{IsLinkedTable}
use Rattle.many_acts.specs.Carries.Promises.{ChangesPreserveTheirs, GuardsPreserveTheirs, NoneBegins, OnlyTablesCarry}
use Rattle.many_acts.specs.Carries.Theirs.{CanCarry, IsObligation, IsTheirs, AllAreTheirs}
use Rattle.many_acts.proofs.Carries.Hands.{begun_same, still_row}
use Rattle.many_acts.proofs.Carries.Owed.{StandsOnAt, stays_so, owed_on, owed_with}

pub users_own : (h : Hand) → IsStillHad h → IsUsersOwn h
users_own NoBlock is = absurd is
users_own (Making i) is = absurd is
users_own (InUse o) is = tt
users_own (Parting i) is = tt
users_own (Cutting i) is = tt
users_own Handed is = absurd is
users_own (LeftTo i) is = absurd is

module _ {K V Q : Type 0} (w w2 : World (Node K V)) (maps maps2 : ℕ → Option (Standing K)) (calls : ℕ → ℕ → Option (UnderWay K V Q)) (enders : ℕ → Option (Finishing K V)) where
  -- a map that stands as it stood has the same tables
  linked_on : (n : ℕ) (s : Standing K) → maps n ≡ Some s → IsSameMap (maps n) (maps2 n)
      → (s2 : Standing K) × (maps2 n ≡ Some s2) × (s2.chart ≡ s.chart) × ((t : ℕ) → s2.blocks.table t ≡ s.blocks.table t)
  linked_on n s is same =
      let k = subst (λ (x : Option (Standing K)). IsSameMap x (maps2 n)) is same in
      (record s { blocks = k.0; sights = k.1 }, k.2, refl, k.3.tables)

  -- whose it was, it is, if whoever was to hand it over is to
  pub theirs_by : (calls2 : ℕ → ℕ → Option (UnderWay K V Q)) → ((n : ℕ) → IsSameMap (maps n) (maps2 n)) → (b : ℕ) → (IsObligation w maps calls enders b → IsObligation w2 maps2 calls2 enders b)
      → IsTheirs w maps calls enders b → IsTheirs w2 maps2 calls2 enders b
  theirs_by calls2 same b owes (inr (inl owed)) = inr (inl (owes owed))
  theirs_by calls2 same b owes (inr (inr ending)) = inr (inr ending)
  theirs_by calls2 same b owes (inl (n, s, is, t, from, made, at)) =
      let k = linked_on n s is (same n) in
      inl (n, k.0, k.1, t, subst (λ (x : Chart K). x.first ≤ t) (sym k.2) from, subst (λ (x : Chart K). t < x.past) (sym k.2) made, at ∙ sym (k.3 t))

  pub same_on : (n : ℕ) → IsSameMap (maps n) (maps2 n) → StandsOnAt maps maps2 n
  same_on n same s is =
      let k = subst (λ (x : Option (Standing K)). IsSameMap x (maps2 n)) is same in
      (record s { blocks = k.0; sights = k.1 }, k.2, record { mode = refl; past = omega arith; tables = λ t made. k.3.tables t })

  pub theirs_same : ((n : ℕ) → IsSameMap (maps n) (maps2 n)) → ((n j : ℕ) (u : UnderWay K V Q) → calls n j ≡ Some u → w2.row j ≡ w.row j) → (b : ℕ)
      → IsTheirs w maps calls enders b → IsTheirs w2 maps2 calls enders b
  theirs_same same rows b = theirs_by calls same b (owed_on w w2 maps maps2 calls enders enders b (λ n j u under. ((λ rests. rows n j u under ∙ rests), same_on n (same n))))

  -- what has its hand and its value can carry as it could
  pub can_back : (b : ℕ) → (IsStillHad (w2.hand b) → (w2.hand b ≡ w.hand b) × (value_at w2.memory b ≡ value_at w.memory b)) → CanCarry w2 maps2 calls enders b → CanCarry w maps calls enders b
  can_back b kept (still, field, value, there, has_list) =
      let k = kept still in (subst IsStillHad k.0 still, field, value, sym k.1 ∙ there, has_list)

module _ {K Q : Type 0} (V : Type 0) (same : K → K → Bool) (asks : Q → K → Bool) (batch_size roots : ℕ) (slot : ℕ → ℕ)
    (w : World (Node K V)) (maps : ℕ → Option (Standing K)) (calls : ℕ → ℕ → Option (UnderWay K V Q)) (makers : ℕ → Option (Beginning K)) (enders : ℕ → Option (Finishing K V)) where
  not_its : (i : ℕ) → ((m : ℕ) → calls m i ≡ None) → (n j : ℕ) (u : UnderWay K V Q) → calls n j ≡ Some u → j ≢ i
  not_its i none n j u under e = let no = none n in let has : calls n i ≡ Some u = ap (calls n) (sym e) ∙ under in cc (no, has)

  pub guards_keep_theirs : GuardsPreserveTheirs V same asks batch_size roots slot w maps calls makers enders
  guards_keep_theirs all theirs i none w2 maps2 maps_same = (begins, goes)
    where
      reached : Reached deferred_word batch_size w
      reached = came_reached batch_size w all.makings.standing.came

      begins : (request : Request) → IsOfSlots request → Happens deferred_word batch_size (Begin i request) w w2 → AllAreTheirs w2 maps2 calls enders
      begins request of h b can =
          let hands = (begun_same deferred_word batch_size i request w w2 of h.1).0 in
          let memory = begins_memory deferred_word batch_size i request w w2 h.1 in
          theirs_same w w2 maps maps2 calls enders maps_same
          (λ n j u under. begins_others deferred_word batch_size w w2 i j (not_its i none n j u under) request h.1) b
          (theirs b (can_back w w2 maps maps2 calls enders b (λ still. (ap (λ (f : ℕ → Hand). f b) hands, ap (λ (m : Mem (Node K V)). value_at m b) memory)) can))

      goes : Happens deferred_word batch_size (Step i) w w2 → AllAreTheirs w2 maps2 calls enders
      goes h b can =
          theirs_same w w2 maps maps2 calls enders maps_same
          (λ n j u under. steps_others deferred_word batch_size w w2 i j (not_its i none n j u under) (w.row i) h) b
          (theirs b (can_back w w2 maps maps2 calls enders b (λ still.
          let hand = still_row deferred_word batch_size w reached i w2 h b still in
          (hand, users_value batch_size w reached i w2 h b (users_own (w.hand b) (subst IsStillHad hand still)))) can))

  pub none_begins : NoneBegins V same asks batch_size roots slot w maps calls makers enders
  none_begins none b can = absurd (none b can.0)

  pub only_tables_carry : OnlyTablesCarry V same asks batch_size roots slot w maps calls makers enders
  only_tables_carry no_calls no_enders theirs b field value still there has_list = by (theirs b (still, field, value, there, has_list))
    where
      by : IsTheirs w maps calls enders b → IsLinkedTable w maps b
      by (inl linked) = linked
      by (inr (inl (m, i, u, under, owes))) = absurd (let none = no_calls m i in cc (none, under))
      by (inr (inr (i, f, ends, t, from, made, at, none_so))) = absurd (let none = no_enders i in cc (none, ends))

  pub changes_keep_theirs : ChangesPreserveTheirs V same asks batch_size roots slot w maps calls makers enders
  changes_keep_theirs m i next still theirs b can = by (theirs b can)
    where
      by : IsTheirs w maps calls enders b → IsTheirs w maps (with_call calls m i next) enders b
      by (inl linked) = inl linked
      by (inr (inl owed)) =
          inr (inl (owed_with w w maps maps calls enders enders m i next b (λ n j u under ne. ((λ rests. rests), λ s here. (s, here, stays_so s))) (λ u under owes. still u b under owes) owed))
      by (inr (inr ending)) = inr (inr ending)
