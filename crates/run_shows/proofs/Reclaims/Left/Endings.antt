-- What ended maps have left behind roots stays there while further ones end, and what such a one leaves comes to it.
use Rattle.std.specs.Prelude.{◌≢◌, Option, Some, None}
use Rattle.std.proofs.Common.{◌≡◌, ℕ, zero, suc, ◌+◌, ◌<◌, ◌≤◌, Bool, true, List, [], ◌∷◌, ◌++◌, ◌⊎◌, inl, inr, refl, arith, ap, sym, subst, ◌∙◌}
use Rattle.std.proofs.lemmas.Bool.{cases_eq, cases_lt}
use Rattle.seize_words.specs.declared.at.At.TheVariants.{Root, Used, Entry}
use Rattle.seize_words.specs.OneMemory.Mem.{Mem, value_at, word_at}
use Rattle.seize.specs.declared.rows.settle.Settled.{Settled}
use Rattle.seize.specs.declared.states.TheConstants.{NEXT}
use Rattle.seize.specs.World.{World, Hand, LeftTo, times, with_at}
use Rattle.seize_acts.proofs.Given.SeizeRuleRows.Others.{with_here, with_other}
use Rattle.seize_acts.specs.Reclaims.Roots.{all_lists}
use Rattle.run_effects.specs.Given.TablesNodes.{was_left}
use Rattle.run_effects.specs.Given.TablesDeclared.node.Node.{Node}
use Rattle.run_effects.specs.Given.TablesDeclared.node.Node.TheVariants as node
use Rattle.run_effects.specs.Given.TablesDeclared.setting.Setting.{Setting}
use Rattle.run_effects.specs.Given.RawDeclared.machines.end_map.EndMap.{EndMap}
use Rattle.many_maps.specs.Given.CallersTogether.{UnderWay}
use Rattle.many_maps.proofs.Given.CallersTogether.At.{at_other, at_same}
use Rattle.many_maps.specs.Endings.{Finishing, FinishingFacts, finishing_of, waiting_by, HasFinished, EndingsTogether, StepsOfEnding}
use Rattle.many_maps.specs.FactsEnds.{Deed, Looks, TakesPair, LeavesTable, JoinsPair, TakesLeft, TakesCounter, WritesRoot, taken_by, left_by, joined_by, RootIs}
use Rattle.many_maps.specs.Makings.{Beginning}
use Rattle.many_maps.specs.Maps.{Standing}
use Rattle.many_maps.proofs.Among.LeftAlone.{root_taken}
use Rattle.many_maps.proofs.Among.Own.Waiting.{left_not, waits_left, waits_stay, waiting_then}
use Rattle.many_maps.proofs.Beside.Makings.Steps.{one_made}
use Rattle.many_maps.proofs.Ends.CountedBlocks.{times-append, some_here, some_last}
use Rattle.run_shows.specs.Reclaims.Left.{IsSomebodys, LeftWithEndings, EndingsBeginAndLeaveIt, ContinuesBy, EndingsLeaveIt}
use Rattle.run_shows.specs.Reclaims.Reclaims.{RootLeads}
use Rattle.run_shows.proofs.Reclaims.Behind.Kept.{in_all, leads_by}
use Rattle.seize_words.proofs.General.{same_some as one_of, none_less as none_of}

-- with another list behind one root
pub more_behind : (lists : ℕ → List ℕ) (root n x : ℕ) (l : List ℕ) → times x (all_lists (with_at lists root l) n) ≤ times x (all_lists lists n) + times x l
more_behind lists root zero x l = omega arith
more_behind lists root (suc n) x l = elim (cases_eq n root) as (λ _. times x (all_lists (with_at lists root l) (suc n)) ≤ times x (all_lists lists (suc n)) + times x l) [
  | inl e ↦ (let k1 = times-append x (all_lists (with_at lists root l) n) (with_at lists root l n) in let k2 = times-append x (all_lists lists n) (lists n) in
      let e1 = ap (times x) (ap (with_at lists root l) e ∙ with_here lists root l) in let b = before n root (omega (arith, e)) in omega (arith, k1, k2, e1, b))
  | inr ne ↦ (let k1 = times-append x (all_lists (with_at lists root l) n) (with_at lists root l n) in let k2 = times-append x (all_lists lists n) (lists n) in
      let e1 = ap (times x) (with_other lists root n l ne) in let ih = more_behind lists root n x l in omega (arith, k1, k2, e1, ih))
]
  where
    before : (k r : ℕ) → k ≤ r → times x (all_lists (with_at lists r l) k) ≡ times x (all_lists lists k)
    before zero r le = refl
    before (suc k) r le =
        let k1 = times-append x (all_lists (with_at lists r l) k) (with_at lists r l k) in let k2 = times-append x (all_lists lists k) (lists k) in
        let e1 = ap (times x) (with_other lists r k l (λ e. omega (arith, e, le))) in let ih = before k r (omega (arith, le)) in omega (arith, k1, k2, e1, ih)

module _ {K Q : Type 0} (V : Type 0) (same : K → K → Bool) (asks : Q → K → Bool) (batch_size roots : ℕ) (slot : ℕ → ℕ)
    (w : World (Node K V)) (maps : ℕ → Option (Standing K)) (calls : ℕ → ℕ → Option (UnderWay K V Q)) (makers : ℕ → Option (Beginning K)) (enders : ℕ → Option (Finishing K V)) where
  -- the end of a map begins
  module _ (lists : ℕ → List ℕ) (all : EndingsTogether V same asks batch_size roots slot w maps calls makers enders) (left : LeftWithEndings roots w maps makers enders lists)
      (i : ℕ) (free : enders i ≡ None) (m : ℕ) (s : Standing K) (here : maps m ≡ Some s) where
    abbrev begun : Option (Finishing K V)
    begun = Some (finishing_of s w)

    abbrev Then : ℕ → Type 0
    Then r = IsSomebodys (with_at maps m None) makers (with_at enders i begun) r

    still : (r : ℕ) → IsSomebodys maps makers enders r → Then r
    still r (inl (n, s1, is, e)) = elim (cases_eq n m) as (λ _. Then r) [
      | inl at ↦ inr (inr (i, finishing_of s w, at_same enders i begun i refl, ap (λ (x : Standing K). x.setting.root) (one_of s s1 (sym here ∙ sym (ap maps at) ∙ is)) ∙ e))
      | inr ne ↦ inl (n, s1, at_other maps m None n ne ∙ is, e)
    ]
    still r (inr (inl is)) = inr (inl is)
    still r (inr (inr (j, f, is, e))) = inr (inr (j, f, at_other enders i begun j (λ at. absurd (let none = ap enders (sym at) ∙ is in cc (none, free))) ∙ is, e))

    before : (r : ℕ) → Then r → IsSomebodys maps makers enders r
    before r (inl (n, s1, is, e)) = elim (cases_eq n m) as (λ _. IsSomebodys maps makers enders r) [
      | inl at ↦ absurd (let none = at_same maps m None n at in cc (none, is))
      | inr ne ↦ inl (n, s1, sym (at_other maps m None n ne) ∙ is, e)
    ]
    before r (inr (inl is)) = inr (inl is)
    before r (inr (inr (j, f, is, e))) =
        one_made enders i begun (λ j f. f.setting.root ≡ r → IsSomebodys maps makers enders r)
        (λ f at root_is. inl (m, s, here, ap (λ (x : Finishing K V). x.setting.root) (one_of (finishing_of s w) f at) ∙ root_is))
        (λ j f other has root_is. inr (inr (j, f, has, root_is))) j f is e

    -- what is left over is none of its tables
    not_its : (b : ℕ) → 0 < times b (all_lists lists roots) → (t : ℕ) → s.chart.first ≤ t → t < s.chart.past → b ≢ s.blocks.table t
    not_its b on t from made e =
        let k = left.left b on in let used = (all.makings.standing.each m s here).ground.map.tables t from made in let at = ap w.hand e in cc (k.1, used, at)

    pub begun_left : (w2 : World (Node K V)) → w2.memory ≡ w.memory → w2.hand ≡ w.hand → LeftWithEndings roots w2 (with_at maps m None) makers (with_at enders i begun) lists
    begun_left w2 memory hands = record {
      root = λ r below. (elim (left.root r below) as (λ _. Then r ⊎ RootLeads w2 r (lists r)) [
        | inl is ↦ inl (still r is)
        | inr leads ↦ inr (leads_by w w2 r (lists r) (λ a h. ap (λ (x : Mem (Node K V)). word_at x (Root r)) memory ∙ h) (λ a h. ap (λ (x : Mem (Node K V)). word_at x (Used r)) memory ∙ h)
            (λ x on. (ap (λ (y : Mem (Node K V)). value_at y x) memory, λ next h. ap (λ (y : Mem (Node K V)). word_at y (Entry x NEXT)) memory ∙ h)) leads)
      ]);
      none = λ r below is. left.none r below (before r is);
      left = λ b on. let k = left.left b on in (k.0, ap (λ (h : ℕ → Hand). h b) hands ∙ k.1);
      once = left.once;
      apart = λ j f is b on. one_made enders i begun
          (λ j f. (times b f.waits ≡ 0) × ((t : ℕ) → f.chart.first ≤ t → t < f.chart.past → times (f.blocks.table t) f.back ≡ 0 → b ≢ f.blocks.table t))
          (λ f at. subst (λ (x : Finishing K V). (times b x.waits ≡ 0) × ((t : ℕ) → x.chart.first ≤ t → t < x.chart.past → times (x.blocks.table t) x.back ≡ 0 → b ≢ x.blocks.table t))
          (one_of (finishing_of s w) f at) (refl, λ t from made fresh. not_its b on t from made))
          (λ j f other has. left.apart j f has b on) j f is;
    }

  pub endings_begin_and_leave_it : EndingsBeginAndLeaveIt V same asks batch_size roots slot w maps calls makers enders
  endings_begin_and_leave_it lists all left i free m s here w2 h =
      begun_left lists all left i free m s here w2 (ap (λ (x : World (Node K V)). x.memory) h) (ap (λ (x : World (Node K V)). x.hand) h)

  -- it takes a step
  module _ (lists : ℕ → List ℕ) (all : EndingsTogether V same asks batch_size roots slot w maps calls makers enders) (left : LeftWithEndings roots w maps makers enders lists)
      (i : ℕ) (f : Finishing K V) (ends : enders i ≡ Some f) (m2 : Mem (Node K V)) (end : EndMap × Settled (Node K V))
      (st : StepsOfEnding V same asks batch_size roots slot w maps calls makers enders i f m2 end) where
    facts : FinishingFacts same batch_size w i f
    facts = all.facts i f ends

    -- a block that was left over before is none of those that the deed is done to
    module _ (x : ℕ) (on : 0 < times x (all_lists lists roots)) where
      hand_left : (j : ℕ) × (w.hand x ≡ LeftTo j)
      hand_left = left.left x on

      not_taken : times x (taken_by st.deed) ≡ 0
      not_taken = none_of (times x (taken_by st.deed)) (λ some. (elim (st.done_to.takes x some) as (λ _. ⊥) [
        | inl not ↦ left_not (w.hand x) hand_left.0 hand_left.1 not
        | inr (is, fresh, (t, from, made, e)) ↦ (left.apart i f ends x on).1 t from made (subst (λ (y : ℕ). times y f.back ≡ 0) e fresh) e
      ]))

      not_left : times x (left_by st.deed) ≡ 0
      not_left = none_of (times x (left_by st.deed)) (λ some. left_not (w.hand x) hand_left.0 hand_left.1 (st.done_to.leaves x some))

      not_joined : times x (joined_by st.deed) ≡ 0
      not_joined = none_of (times x (joined_by st.deed)) (λ some. let k = st.done_to.joins x some in let z = (left.apart i f ends x on).0 in omega (arith, k, z))

      hand_then : st.w2.hand x ≡ w.hand x
      hand_then = st.spares.hands x not_taken not_left

      as_it_was : (value_at st.w2.memory x ≡ value_at w.memory x) × ((next : ℕ) → word_at w.memory (Entry x NEXT) ≡ Some next → word_at st.w2.memory (Entry x NEXT) ≡ Some next)
      as_it_was = (st.spares.values x not_taken, λ next h. st.spares.links x not_taken not_joined ∙ h)

    -- a root that is nobody's is none of its
    not_its_root : (r : ℕ) (l : List ℕ) → r < roots → lists r ≡ l → RootLeads w r l → r ≢ f.setting.root
    not_its_root r [] below is (unused, nowhere) e =
        (let one = root_taken same batch_size w i f facts in let zero_there = subst (λ (x : ℕ). word_at w.memory (Used x) ≡ Some 0) e unused in cc (one, zero_there))
    not_its_root r (x ∷ l) below is leads e = (let none = left.none r below (inr (inr (i, f, ends, sym e))) in cc (none, is))

    leads_on : (r : ℕ) → r < roots → RootLeads w r (lists r) → RootLeads st.w2 r (lists r)
    leads_on r below leads =
        let ne = not_its_root r (lists r) below refl leads in
        leads_by w st.w2 r (lists r) (λ a h. (st.spares.roots r ne).0 ∙ h) (λ a h. (st.spares.roots r ne).1 ∙ h) (λ x on. as_it_was x (let q = in_all lists r roots x below in omega (arith, q, on))) leads

    -- what waits then is what waited, or was not left over before
    none_waits : (x : ℕ) → 0 < times x (all_lists lists roots) → times x (f.waits ++ waiting_by st.deed) ≡ 0
    none_waits x on = let k = times-append x f.waits (waiting_by st.deed) in let a = (left.apart i f ends x on).0 in let b = by st.deed (not_left x on) in omega (arith, k, a, b)
      where
        by : (deed : Deed) → times x (left_by deed) ≡ 0 → times x (waiting_by deed) ≡ 0
        by Looks none = refl
        by (TakesPair b) none = refl
        by (LeavesTable b further) none = none_of (times x further) (λ some. let k = some_last x (b ∷ []) further some in omega (arith, k, none))
        by (JoinsPair b word) none = refl
        by (TakesLeft b) none = refl
        by (TakesCounter b) none = refl
        by (WritesRoot at word) none = refl

    -- it goes on
    module _ (f2 : Finishing K V) (on_by : ContinuesBy V same asks batch_size roots slot w maps calls makers enders f st.deed f2) where
      same_root : f2.setting.root ≡ f.setting.root
      same_root = ap (λ (x : Setting). x.root) on_by.setting_is

      still_on : (r : ℕ) → IsSomebodys maps makers enders r → IsSomebodys maps makers (with_at enders i (Some f2)) r
      still_on r (inl is) = inl is
      still_on r (inr (inl is)) = inr (inl is)
      still_on r (inr (inr (j, g, is, e))) = elim (cases_eq j i) as (λ _. IsSomebodys maps makers (with_at enders i (Some f2)) r) [
        | inl at ↦ inr (inr (i, f2, at_same enders i (Some f2) i refl, same_root ∙ ap (λ (x : Finishing K V). x.setting.root) (one_of f g (sym ends ∙ sym (ap enders at) ∙ is)) ∙ e))
        | inr ne ↦ inr (inr (j, g, at_other enders i (Some f2) j ne ∙ is, e))
      ]

      before_on : (r : ℕ) → IsSomebodys maps makers (with_at enders i (Some f2)) r → IsSomebodys maps makers enders r
      before_on r (inl is) = inl is
      before_on r (inr (inl is)) = inr (inl is)
      before_on r (inr (inr (j, g, is, e))) =
          one_made enders i (Some f2) (λ j g. g.setting.root ≡ r → IsSomebodys maps makers enders r)
          (λ g at root_is. inr (inr (i, f, ends, sym same_root ∙ ap (λ (x : Finishing K V). x.setting.root) (one_of f2 g at) ∙ root_is)))
          (λ j g other has root_is. inr (inr (j, g, has, root_is))) j g is e

      abbrev Apart : ℕ → Finishing K V → Type 0
      Apart b g = (times b g.waits ≡ 0) × ((t : ℕ) → g.chart.first ≤ t → t < g.chart.past → times (g.blocks.table t) g.back ≡ 0 → b ≢ g.blocks.table t)

      apart_on : (b : ℕ) → 0 < times b (all_lists lists roots) → Apart b f2
      apart_on b on = (
        ap (times b) on_by.waits_are ∙ none_waits b on,
        λ t from made fresh e.
            let chart = on_by.chart_is in
            let table_is = ap (λ x. x.table t) on_by.blocks_are in
            (left.apart i f ends b on).1 t (subst (λ c. c.first ≤ t) chart from) (subst (λ c. t < c.past) chart made)
            (let k = ap (times (f.blocks.table t)) on_by.back_is in let q = times-append (f.blocks.table t) f.back (taken_by st.deed) in
            let z : times (f.blocks.table t) f2.back ≡ 0 = subst (λ (y : ℕ). times y f2.back ≡ 0) table_is fresh in omega (arith, k, q, z)) (e ∙ table_is),
      )

      goes_on : LeftWithEndings roots st.w2 maps makers (with_at enders i (Some f2)) lists
      goes_on = record {
        root = λ r below. (elim (left.root r below) as (λ _. IsSomebodys maps makers (with_at enders i (Some f2)) r ⊎ RootLeads st.w2 r (lists r)) [
          | inl is ↦ inl (still_on r is)
          | inr leads ↦ inr (leads_on r below leads)
        ]);
        none = λ r below is. left.none r below (before_on r is);
        left = λ b on. let k = left.left b on in (k.0, hand_then b on ∙ k.1);
        once = left.once;
        apart = λ j g is b on. one_made enders i (Some f2) (λ j g. Apart b g) (λ g at. subst (Apart b) (one_of f2 g at) (apart_on b on)) (λ j g other has. left.apart j g has b on) j g is;
      }

    -- it is over: what waits is behind its root
    module _ (done : HasFinished st.w2.memory f) where
      abbrev root : ℕ
      root = f.setting.root

      abbrev Over : ℕ → Type 0
      Over r = IsSomebodys maps makers (with_at enders i None) r

      its_waits : (x : ℕ) → 0 < times x f.waits → w.hand x ≡ LeftTo i
      its_waits x on = waits_left same batch_size w i f facts x on

      waits_then : (x : ℕ) → 0 < times x f.waits → st.w2.hand x ≡ LeftTo i
      waits_then x on = st.spares.hands x (waits_stay same batch_size w i f facts st.deed st.done_to.takes x on) none_left ∙ its_waits x on
        where
          none_left : times x (left_by st.deed) ≡ 0
          none_left = none_of (times x (left_by st.deed)) (λ some. left_not (w.hand x) i (its_waits x on) (st.done_to.leaves x some))

      -- it is pairs
      pairs : (x : ℕ) → 0 < times x f.waits → (value : Node K V) × (value_at st.w2.memory x ≡ Some value) × (was_left value ≡ true)
      pairs x on = let p = waiting_then same batch_size w i f facts st.w2 st.deed st.spares st.done_to.takes x on in (node.Pair p.0 p.1, p.2, refl)

      -- how often a block stands in all lists
      either : (x : ℕ) → 0 < times x (all_lists (with_at lists f.setting.root f.waits) roots) → (0 < times x (all_lists lists roots)) ⊎ (0 < times x f.waits)
      either x on = by (times x f.waits) refl
        where
          by : (k : ℕ) → times x f.waits ≡ k → (0 < times x (all_lists lists roots)) ⊎ (0 < times x f.waits)
          by zero e = inl (let k = more_behind lists f.setting.root roots x f.waits in omega (arith, k, on, e))
          by (suc k) e = inr (omega (arith, e))

      once_then : (x : ℕ) → times x (all_lists (with_at lists f.setting.root f.waits) roots) ≤ 1
      once_then x = by (times x (all_lists lists roots)) refl
        where
          by : (k : ℕ) → times x (all_lists lists roots) ≡ k → times x (all_lists (with_at lists f.setting.root f.waits) roots) ≤ 1
          by zero e = let k = more_behind lists f.setting.root roots x f.waits in let one = (done.once x).1 in omega (arith, k, one, e)
          by (suc n) e = let k = more_behind lists f.setting.root roots x f.waits in let one = left.once x in let z = (left.apart i f ends x (omega (arith, e))).0 in omega (arith, k, one, z)

      leads_here : (l : List ℕ) → f.waits ≡ l → RootIs f.setting st.w2.memory l → RootLeads st.w2 f.setting.root l
      leads_here [] is (leads, unused) = (unused, leads)
      leads_here (b ∷ l) is (word, leads, there, used) =
          (pairs b (subst (λ (k : List ℕ). 0 < times b k) (sym is) (some_here b l)), (word, leads, there), used)

      -- the root is nobody's any more
      not_root : (r : ℕ) → Over r → r ≢ f.setting.root
      not_root r (inl (m, s, here, e)) at = all.roots_apart i m f s ends here (sym at ∙ sym e)
      not_root r (inr (inl (j, b, makes, taken, e))) at = all.makings_roots i j f b ends makes taken (sym at ∙ sym e)
      not_root r (inr (inr (j, g, is, e))) at =
          one_made enders i None (λ j g. g.setting.root ≡ r → ⊥) (λ g none. absurd (cc none))
          (λ j g other has root_is. all.their_roots i j f g (λ k. other (sym k)) ends has (sym at ∙ sym root_is)) j g is e

      before_over : (r : ℕ) → Over r → IsSomebodys maps makers enders r
      before_over r (inl is) = inl is
      before_over r (inr (inl is)) = inr (inl is)
      before_over r (inr (inr (j, g, is, e))) =
          one_made enders i None (λ j g. g.setting.root ≡ r → IsSomebodys maps makers enders r) (λ g none. absurd (cc none))
          (λ j g other has root_is. inr (inr (j, g, has, root_is))) j g is e

      still_over : (r : ℕ) → r ≢ f.setting.root → IsSomebodys maps makers enders r → Over r
      still_over r ne (inl is) = inl is
      still_over r ne (inr (inl is)) = inr (inl is)
      still_over r ne (inr (inr (j, g, is, e))) = elim (cases_eq j i) as (λ _. Over r) [
        | inl at ↦ absurd (ne (sym (ap (λ (x : Finishing K V). x.setting.root) (one_of f g (sym ends ∙ sym (ap enders at) ∙ is)) ∙ e)))
        | inr other ↦ inr (inr (j, g, at_other enders i None j other ∙ is, e))
      ]

      root_then : (r : ℕ) → r < roots → Over r ⊎ RootLeads st.w2 r (with_at lists f.setting.root f.waits r)
      root_then r below = elim (cases_eq r f.setting.root) as (λ _. Over r ⊎ RootLeads st.w2 r (with_at lists f.setting.root f.waits r)) [
        | inl e ↦ inr (subst (λ (x : ℕ). RootLeads st.w2 x (with_at lists f.setting.root f.waits x)) (sym e)
            (subst (λ (l : List ℕ). RootLeads st.w2 f.setting.root l) (sym (with_here lists f.setting.root f.waits)) (leads_here f.waits refl done.root)))
        | inr ne ↦ (elim (left.root r below) as (λ _. Over r ⊎ RootLeads st.w2 r (with_at lists f.setting.root f.waits r)) [
          | inl is ↦ inl (still_over r ne is)
          | inr leads ↦ inr (subst (λ (l : List ℕ). RootLeads st.w2 r l) (sym (with_other lists f.setting.root r f.waits ne)) (leads_on r below leads))
        ])
      ]

      -- what other ends have left over
      module _ (j : ℕ) (g : Finishing K V) (other : j ≢ i) (has : enders j ≡ Some g) (x : ℕ) (on : 0 < times x f.waits) where
        its : FinishingFacts same batch_size w j g
        its = all.facts j g has

        two_callers : LeftTo i ≡ LeftTo j → ⊥
        two_callers e = other (let k : i ≡ j = cc e in sym k)

        none_of_its : times x g.waits ≡ 0
        none_of_its = none_of (times x g.waits) (λ some.
            two_callers (sym (its_waits x on) ∙ its.facts.since.waits x (subst (λ (l : List ℕ). 0 < times x l) its.waits_are some)))

        none_of_tables : (t : ℕ) → g.chart.first ≤ t → t < g.chart.past → times (g.blocks.table t) g.back ≡ 0 → x ≢ g.blocks.table t
        none_of_tables t from made fresh e =
            let y = its.facts.since.tables t from made fresh in
            elim (cases_lt t its.past) as (λ _. ⊥) [
              | inl before ↦ two_callers (sym (its_waits x on) ∙ ap w.hand e ∙ (y.left before).0)
              | inr later ↦ (let used = (y.used later).0 in let at = ap w.hand e in let l = its_waits x on in cc (used, at, l))
            ]

      apart_over : (j : ℕ) (g : Finishing K V) → with_at enders i None j ≡ Some g → (b : ℕ) → 0 < times b (all_lists (with_at lists f.setting.root f.waits) roots)
          → (times b g.waits ≡ 0) × ((t : ℕ) → g.chart.first ≤ t → t < g.chart.past → times (g.blocks.table t) g.back ≡ 0 → b ≢ g.blocks.table t)
      apart_over j g is b on =
          one_made enders i None (λ j g. (times b g.waits ≡ 0) × ((t : ℕ) → g.chart.first ≤ t → t < g.chart.past → times (g.blocks.table t) g.back ≡ 0 → b ≢ g.blocks.table t))
          (λ g none. absurd (cc none))
          (λ j g other has. (elim (either b on) as (λ _. (times b g.waits ≡ 0) × ((t : ℕ) → g.chart.first ≤ t → t < g.chart.past → times (g.blocks.table t) g.back ≡ 0 → b ≢ g.blocks.table t)) [
            | inl old ↦ left.apart j g has b old
            | inr new ↦ (none_of_its j g other has b new, none_of_tables j g other has b new)
          ])) j g is

      is_over : LeftWithEndings roots st.w2 maps makers (with_at enders i None) (with_at lists f.setting.root f.waits)
      is_over = record {
        root = root_then;
        none = λ r below is. with_other lists f.setting.root r f.waits (not_root r is) ∙ left.none r below (before_over r is);
        left = λ b on. (elim (either b on) as (λ _. (j : ℕ) × (st.w2.hand b ≡ LeftTo j)) [
          | inl old ↦ (let k = left.left b old in (k.0, hand_then b old ∙ k.1))
          | inr new ↦ (i, waits_then b new)
        ]);
        once = once_then;
        apart = apart_over;
      }

  pub endings_leave_it : EndingsLeaveIt V same asks batch_size roots slot w maps calls makers enders
  endings_leave_it lists all left i f ends m2 end st =
      (λ f2 on_by. goes_on lists all left i f ends m2 end st f2 on_by, λ done. is_over lists all left i f ends m2 end st done)
