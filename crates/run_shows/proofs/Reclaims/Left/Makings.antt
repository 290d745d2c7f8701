-- What ended maps have left behind roots stays there while maps are made.
use Rattle.std.specs.Prelude.{◌≢◌, Option, Some, None, ◌/◌}
use Rattle.std.proofs.Common.{◌≡◌, ℕ, ◌<◌, Bool, false, List, [], ◌∷◌, ◌⊎◌, inl, inr, refl, arith, ap, sym, subst, ◌∙◌}
use Rattle.std.proofs.lemmas.Bool.{cases_eq}
use Rattle.seize_words.specs.OneMemory.Word.{block_in}
use Rattle.seize_words.specs.declared.fault.Fault.{Fault}
use Rattle.seize_words.specs.declared.at.At.TheVariants.{Root, Used}
use Rattle.seize_words.specs.OneMemory.Mem.{Mem, value_at, word_at}
use Rattle.seize.specs.declared.advance.Advance.{Advance}
use Rattle.seize.specs.declared.advance.Advance.TheVariants as progress
use Rattle.seize.specs.World.{World, times, with_at}
use Rattle.seize_acts.proofs.Given.SeizeMemoryWords.Named.{link-block}
use Rattle.run_effects.specs.Given.TablesNodes.{was_left}
use Rattle.run_effects.specs.Given.TablesDeclared.node.Node.{Node}
use Rattle.run_effects.specs.Given.TablesDeclared.setting.Setting.{Setting}
use Rattle.run_effects.specs.Given.ResizeDeclared.new_map.NewMap.{NewMap}
use Rattle.many_maps.specs.Given.CallersTogether.{UnderWay}
use Rattle.many_maps.proofs.Given.CallersTogether.At.{at_other, at_same}
use Rattle.many_maps.specs.Endings.{Finishing, EndingsTogether, MakingStepsWithEndings}
use Rattle.many_maps.specs.Makings.{Beginning, HasTaken, HasComeTo, PreservesItsOwn, LeavesRest, IsTakenRoot}
use Rattle.many_maps.specs.Maps.{Standing}
use Rattle.many_maps.proofs.Beside.Makings.Lasts.{taken_root}
use Rattle.many_maps.proofs.Beside.Makings.Steps.{one_made}
use Rattle.run_shows.specs.Reclaims.Left.{IsSomebodys, LeftWithEndings, MakingsBeginAndLeaveIt, MakingsLeaveIt}
use Rattle.run_shows.specs.Reclaims.Reclaims.{IsRootOf, RootLeads}
use Rattle.run_shows.proofs.Reclaims.Behind.Kept.{in_all, leads_by}
use Rattle.run_shows.proofs.Reclaims.Behind.Points.{root_of_map}
use Rattle.seize_words.proofs.General.{same_some as one_of}

module _ {K Q : Type 0} (V : Type 0) (same : K → K → Bool) (asks : Q → K → Bool) (batch_size roots : ℕ) (slot : ℕ → ℕ)
    (w : World (Node K V)) (maps : ℕ → Option (Standing K)) (calls : ℕ → ℕ → Option (UnderWay K V Q)) (makers : ℕ → Option (Beginning K)) (enders : ℕ → Option (Finishing K V)) where
  -- a root that leads to what was left is no standing map's
  pub left_is_no_map : EndingsTogether V same asks batch_size roots slot w maps calls makers enders → (r b : ℕ) (l : List ℕ) → RootLeads w r (b ∷ l) → IsRootOf maps r → ⊥
  left_is_no_map all r b l ((value, there, was), (word, leads, from), used) (m, s, here, is) =
      let k = root_of_map same s.hash s.setting w s.chart s.blocks (all.makings.standing.each m s here).ground.map in
      let e : k.0 ≡ word = same_word k.0 word (sym k.1 ∙ ap (λ (x : ℕ). word_at w.memory (Root x)) is ∙ leads) in by k.0 e k.2
    where
      same_word : (a c : ℕ) → ◌≡◌ {A = Option ℕ} (Some a) (Some c) → a ≡ c
      same_word a c e = cc e

      same_value : (x y : Node K V) → ◌≡◌ {A = Option (Node K V)} (Some x) (Some y) → x ≡ y
      same_value x y e = cc e

      by : (a : ℕ) → a ≡ word → (a ≡ 0) ⊎ ((v : Node K V) × (value_at w.memory (block_in a) ≡ Some v) × (was_left v ≡ false)) → ⊥
      by a e (inl z) = let p = from.1 in let q = from.2 in omega (arith, e, z, p, q)
      by a e (inr (v, is_there, not_left)) =
          let named : block_in a ≡ b = ap (λ u. u / 2048) (e ∙ from.2) ∙ link-block b in
          let v_is = same_value v value (sym is_there ∙ ap (λ (x : ℕ). value_at w.memory x) named ∙ there) in
          let left_too = ap was_left v_is ∙ was in cc (not_left, left_too)

module _ {K Q : Type 0} (V : Type 0) (same : K → K → Bool) (asks : Q → K → Bool) (batch_size roots : ℕ) (slot : ℕ → ℕ)
    (w : World (Node K V)) (maps : ℕ → Option (Standing K)) (calls : ℕ → ℕ → Option (UnderWay K V Q)) (makers : ℕ → Option (Beginning K)) (enders : ℕ → Option (Finishing K V)) where
  -- a making begins
  pub makings_begin_and_leave_it : MakingsBeginAndLeaveIt V same asks batch_size roots slot w maps calls makers enders
  makings_begin_and_leave_it lists left i free b not_taken = record {
    root = λ r below. (elim (left.root r below) as (λ _. IsSomebodys maps (with_at makers i (Some b)) enders r ⊎ RootLeads w r (lists r)) [
      | inl is ↦ inl (still r is)
      | inr leads ↦ inr leads
    ]);
    none = λ r below is. left.none r below (before r is);
    left = left.left;
    once = left.once;
    apart = left.apart;
  }
    where
      still : (r : ℕ) → IsSomebodys maps makers enders r → IsSomebodys maps (with_at makers i (Some b)) enders r
      still r (inl is) = inl is
      still r (inr (inl (j, d, makes, taken, is))) = inr (inl (j, d, at_other makers i (Some b) j (λ e. absurd (let none = ap makers (sym e) ∙ makes in cc (none, free))) ∙ makes, taken, is))
      still r (inr (inr is)) = inr (inr is)

      before : (r : ℕ) → IsSomebodys maps (with_at makers i (Some b)) enders r → IsSomebodys maps makers enders r
      before r (inl is) = inl is
      before r (inr (inl (j, d, makes, taken, is))) =
          one_made makers i (Some b) (λ j d. HasTaken d.machine.stands → d.machine.setting.root ≡ r → IsSomebodys maps makers enders r)
          (λ d e taken is. absurd (not_taken (subst (λ (x : Beginning K). HasTaken x.machine.stands) (sym (one_of b d e)) taken)))
          (λ j d other makes taken is. inr (inl (j, d, makes, taken, is))) j d makes taken is
      before r (inr (inr is)) = inr (inr is)

  module _ (lists : ℕ → List ℕ) (all : EndingsTogether V same asks batch_size roots slot w maps calls makers enders) (left : LeftWithEndings roots w maps makers enders lists) (i : ℕ) (b : Beginning K)
      (makes : makers i ≡ Some b) (w2 : World (Node K V)) (end : NewMap × Advance Setting) (rest : LeavesRest {Q = Q} V same asks batch_size roots slot w w2 b.machine end)
      (keeps : PreservesItsOwn {Q = Q} V same asks batch_size roots slot w w2 b.machine end) where
    -- the root that it has is its own
    own_taken : HasTaken b.machine.stands → IsTakenRoot w b.machine.setting.root
    own_taken taken = taken_root same i w w2 roots b.machine b.machine.stands taken (all.makings.facts i b makes).point

    own : (r : ℕ) → HasTaken b.machine.stands → b.machine.setting.root ≡ r → IsSomebodys maps makers enders r
    own r taken is = inr (inl (i, b, makes, taken, is))

    not_own : (r : ℕ) (l : List ℕ) → r < roots → lists r ≡ l → RootLeads w r l → HasTaken b.machine.stands → r ≢ b.machine.setting.root
    not_own r [] below is (unused, nowhere) taken e = (let one = (own_taken taken).0 in let zero_there = subst (λ (x : ℕ). word_at w.memory (Used x) ≡ Some 0) e unused in cc (one, zero_there))
    not_own r (x ∷ l) below is leads taken e = (let none = left.none r below (own r taken (sym e)) in cc (none, is))

    -- what leads to a list does so still, and what is free is so still, unless the making has come to it
    list_on : (r x : ℕ) (l : List ℕ) → r < roots → lists r ≡ x ∷ l → RootLeads w r (x ∷ l) → RootLeads w2 r (x ∷ l)
    list_on r x l below is leads =
        leads_by w w2 r (x ∷ l) (λ a h. rest.leads r a (not_own r (x ∷ l) below is leads) h)
        (λ a h. rest.used r (not_own r (x ∷ l) below is leads) leads.2 ∙ sym leads.2 ∙ h)
        (λ y on. let k = left.left y (let q = in_all lists r roots y below in let e = ap (times y) is in omega (arith, q, e, on)) in (rest.values y k.0 k.1, λ next h. rest.links y k.0 next k.1 h)) leads

    leads_on : (r : ℕ) (l : List ℕ) → r < roots → lists r ≡ l → RootLeads w r l → RootLeads w2 r l ⊎ HasComeTo {Q = Q} V same asks batch_size roots slot end r
    leads_on r [] below is (unused, nowhere) = elim (rest.free r unused) as (λ _. RootLeads w2 r [] ⊎ HasComeTo {Q = Q} V same asks batch_size roots slot end r) [
      | inl still ↦ inl (still, rest.leads r 0 (not_own r [] below is (unused, nowhere)) nowhere)
      | inr come ↦ inr come
    ]
    leads_on r (x ∷ l) below is leads = inl (list_on r x l below is leads)

    -- what is so of the roots then
    module _ (maps2 : ℕ → Option (Standing K)) (makers2 : ℕ → Option (Beginning K))
        (still : (r : ℕ) → r < roots → IsSomebodys maps makers enders r → IsSomebodys maps2 makers2 enders r ⊎ ((lists r ≡ []) × RootLeads w2 r []))
        (come : (r : ℕ) → HasComeTo {Q = Q} V same asks batch_size roots slot end r → IsSomebodys maps2 makers2 enders r)
        (none2 : (r : ℕ) → r < roots → IsSomebodys maps2 makers2 enders r → lists r ≡ []) where
      pub left_then : LeftWithEndings roots w2 maps2 makers2 enders lists
      left_then = record {
        root = λ r below. (elim (left.root r below) as (λ _. IsSomebodys maps2 makers2 enders r ⊎ RootLeads w2 r (lists r)) [
          | inl is ↦ (elim (still r below is) as (λ _. IsSomebodys maps2 makers2 enders r ⊎ RootLeads w2 r (lists r)) [
            | inl is2 ↦ inl is2
            | inr free ↦ inr (subst (λ (l : List ℕ). RootLeads w2 r l) (sym free.0) free.1)
          ])
          | inr leads ↦ (elim (leads_on r (lists r) below refl leads) as (λ _. IsSomebodys maps2 makers2 enders r ⊎ RootLeads w2 r (lists r)) [
            | inl leads2 ↦ inr leads2
            | inr to ↦ inl (come r to)
          ])
        ]);
        none = none2;
        left = λ x on. let k = left.left x on in (k.0, rest.hands x k.0 k.1);
        once = left.once;
        apart = left.apart;
      }

    -- nothing is behind a root that leads to no list then
    none_by : (r : ℕ) → r < roots → ((x : ℕ) (l : List ℕ) → RootLeads w2 r (x ∷ l) → ⊥) → lists r ≡ []
    none_by r below no_list = by (lists r) refl
      where
        by : (l : List ℕ) → lists r ≡ l → lists r ≡ []
        by [] is = is
        by (x ∷ l) is = elim (left.root r below) as (λ _. lists r ≡ []) [
          | inl somebody ↦ left.none r below somebody
          | inr leads ↦ absurd (no_list x l (list_on r x l below is (subst (λ (k : List ℕ). RootLeads w r k) is leads)))
        ]

    other_maker : (new : Option (Beginning K)) (j : ℕ) (d : Beginning K) → j ≢ i → makers j ≡ Some d → with_at makers i new j ≡ Some d
    other_maker new j d other is = at_other makers i new j other ∙ is

    -- the makers are the same but for this one
    maker_still : (maps2 : ℕ → Option (Standing K)) (new : Option (Beginning K)) (r : ℕ) (P : Type 0) → (IsSomebodys maps2 (with_at makers i new) enders r → P) → (HasTaken b.machine.stands → b.machine.setting.root ≡ r → P)
        → (j : ℕ) (d : Beginning K) → makers j ≡ Some d → HasTaken d.machine.stands → d.machine.setting.root ≡ r → P
    maker_still maps2 new r P as_other as_this j d is taken root_is = elim (cases_eq j i) as (λ _. P) [
      | inl e ↦ (let same_b = one_of d b (sym is ∙ ap makers e ∙ makes) in
          as_this (subst (λ (x : Beginning K). HasTaken x.machine.stands) same_b taken) (ap (λ (x : Beginning K). x.machine.setting.root) (sym same_b) ∙ root_is))
      | inr ne ↦ as_other (inr (inl (j, d, other_maker new j d ne is, taken, root_is)))
    ]

    -- a taken root that leads nowhere leads to no list
    nowhere_no_list : (v : World (Node K V)) (r x : ℕ) (l : List ℕ) → word_at v.memory (Root r) ≡ Some 0 → RootLeads v r (x ∷ l) → ⊥
    nowhere_no_list v r x l nowhere leads = (let e : leads.1.0 ≡ 0 = one_of leads.1.0 0 (sym leads.1.1 ∙ nowhere) in let p = leads.1.2.1 in let q = leads.1.2.2 in omega (arith, e, p, q))

  -- it goes on
  module _ (lists : ℕ → List ℕ) (all : EndingsTogether V same asks batch_size roots slot w maps calls makers enders) (left : LeftWithEndings roots w maps makers enders lists) (i : ℕ) (b : Beginning K)
      (makes : makers i ≡ Some b) (m2 : Mem (Node K V)) (n : NewMap) where
    abbrev after : Option (Beginning K)
    after = Some (record b { machine = n })

    goes_on : (st : MakingStepsWithEndings V same asks batch_size roots slot w maps calls makers enders i b m2 (n, progress.Goes))
        → LeftWithEndings roots st.step.w2 maps (with_at makers i (Some (record b { machine = n }))) enders lists
    goes_on st = left_then lists all left i b makes st.step.w2 (n, progress.Goes) st.step.rest st.step.keeps maps (with_at makers i after) still come none2
      where
        still : (r : ℕ) → r < roots → IsSomebodys maps makers enders r → IsSomebodys maps (with_at makers i after) enders r ⊎ ((lists r ≡ []) × RootLeads st.step.w2 r [])
        still r below (inl is) = inl (inl is)
        still r below (inr (inl (j, d, is, taken, root_is))) =
            maker_still lists all left i b makes st.step.w2 (n, progress.Goes) st.step.rest st.step.keeps maps after r
            (IsSomebodys maps (with_at makers i after) enders r ⊎ ((lists r ≡ []) × RootLeads st.step.w2 r [])) (λ other. inl other)
            (λ its e. inl (inr (inl (i, record b { machine = n }, at_same makers i after i refl, (st.step.keeps.0 its).0, (st.step.keeps.0 its).1 ∙ e)))) j d is taken root_is
        still r below (inr (inr is)) = inl (inr (inr is))

        come : (r : ℕ) → HasComeTo {Q = Q} V same asks batch_size roots slot (n, progress.Goes) r → IsSomebodys maps (with_at makers i after) enders r
        come r to = inr (inl (i, record b { machine = n }, at_same makers i after i refl, to.0, to.1))

        none2 : (r : ℕ) → r < roots → IsSomebodys maps (with_at makers i after) enders r → lists r ≡ []
        none2 r below (inl is) = left.none r below (inl is)
        none2 r below (inr (inl (j, d, is, taken, root_is))) =
            one_made makers i after (λ j d. HasTaken d.machine.stands → d.machine.setting.root ≡ r → lists r ≡ [])
            (λ d e. subst (λ (x : Beginning K). HasTaken x.machine.stands → x.machine.setting.root ≡ r → lists r ≡ []) (one_of (record b { machine = n }) d e)
            (λ its root_here.
            let point = (st.told.makings.facts i (record b { machine = n }) (at_same makers i after i refl)).point in
            let at_root = taken_root same i st.step.w2 st.step.w2 roots n n.stands its point in
            none_by lists all left i b makes st.step.w2 (n, progress.Goes) st.step.rest st.step.keeps r below
            (λ x l leads. nowhere_no_list lists all left i b makes st.step.w2 (n, progress.Goes) st.step.rest st.step.keeps st.step.w2 r x l (subst (λ (y : ℕ). word_at st.step.w2.memory (Root y) ≡ Some 0) root_here at_root.1) leads)))
            (λ j d other has its root_here. left.none r below (inr (inl (j, d, has, its, root_here)))) j d is taken root_is
        none2 r below (inr (inr is)) = left.none r below (inr (inr is))

    -- without it: what is so of the others
    others_only : (maps2 : ℕ → Option (Standing K)) (r : ℕ) → r < roots → (IsRootOf maps2 r → lists r ≡ []) → IsSomebodys maps2 (with_at makers i None) enders r → lists r ≡ []
    others_only maps2 r below of_map (inl is) = of_map is
    others_only maps2 r below of_map (inr (inl (j, d, is, taken, root_is))) =
        one_made makers i None (λ j d. HasTaken d.machine.stands → d.machine.setting.root ≡ r → lists r ≡ []) (λ d e. absurd (cc e))
        (λ j d other has its root_here. left.none r below (inr (inl (j, d, has, its, root_here)))) j d is taken root_is
    others_only maps2 r below of_map (inr (inr is)) = left.none r below (inr (inr is))

    -- its map stands
    stands : (answer : Setting) (st : MakingStepsWithEndings V same asks batch_size roots slot w maps calls makers enders i b m2 (n, progress.Done answer))
        → LeftWithEndings roots st.step.w2 (with_at maps b.map (Some st.told.0)) (with_at makers i None) enders lists
    stands answer st = left_then lists all left i b makes st.step.w2 (n, progress.Done answer) st.step.rest st.step.keeps (with_at maps b.map (Some st.told.0)) (with_at makers i None) still (λ r to. absurd to)
        (λ r below. others_only (with_at maps b.map (Some st.told.0)) r below (of_map r below))
      where
        none_there : maps b.map ≡ None
        none_there = all.makings.coming i b makes

        still : (r : ℕ) → r < roots → IsSomebodys maps makers enders r → IsSomebodys (with_at maps b.map (Some st.told.0)) (with_at makers i None) enders r ⊎ ((lists r ≡ []) × RootLeads st.step.w2 r [])
        still r below (inl (m, s, here, is)) = inl (inl (m, s, at_other maps b.map (Some st.told.0) m (λ e. absurd (let at = ap maps (sym e) ∙ here in cc (at, none_there))) ∙ here, is))
        still r below (inr (inl (j, d, is, taken, root_is))) =
            maker_still lists all left i b makes st.step.w2 (n, progress.Done answer) st.step.rest st.step.keeps (with_at maps b.map (Some st.told.0)) None r
            (IsSomebodys (with_at maps b.map (Some st.told.0)) (with_at makers i None) enders r ⊎ ((lists r ≡ []) × RootLeads st.step.w2 r [])) (λ other. inl other)
            (λ its e. inl (inl (b.map, st.told.0, at_same maps b.map (Some st.told.0) b.map refl, ap (λ (x : Setting). x.root) st.told.1.setting_is ∙ st.step.keeps.0 its ∙ e))) j d is taken root_is
        still r below (inr (inr is)) = inl (inr (inr is))

        of_map : (r : ℕ) → r < roots → IsRootOf (with_at maps b.map (Some st.told.0)) r → lists r ≡ []
        of_map r below is =
            none_by lists all left i b makes st.step.w2 (n, progress.Done answer) st.step.rest st.step.keeps r below
            (λ x l leads. left_is_no_map V same asks batch_size roots slot st.step.w2 (with_at maps b.map (Some st.told.0)) calls (with_at makers i None) enders st.told.2 r x l leads is)

    -- it is refused
    refused : (fault : Fault) (st : MakingStepsWithEndings V same asks batch_size roots slot w maps calls makers enders i b m2 (n, progress.Refused fault))
        → LeftWithEndings roots st.step.w2 maps (with_at makers i None) enders lists
    refused fault st = left_then lists all left i b makes st.step.w2 (n, progress.Refused fault) st.step.rest st.step.keeps maps (with_at makers i None) still (λ r to. absurd to)
        (λ r below. others_only maps r below (λ is. left.none r below (inl is)))
      where
        still : (r : ℕ) → r < roots → IsSomebodys maps makers enders r → IsSomebodys maps (with_at makers i None) enders r ⊎ ((lists r ≡ []) × RootLeads st.step.w2 r [])
        still r below (inl is) = inl (inl is)
        still r below (inr (inl (j, d, is, taken, root_is))) =
            maker_still lists all left i b makes st.step.w2 (n, progress.Refused fault) st.step.rest st.step.keeps maps None r
            (IsSomebodys maps (with_at makers i None) enders r ⊎ ((lists r ≡ []) × RootLeads st.step.w2 r [])) (λ other. inl other)
            (λ its e. inr (left.none r below (inr (inl (i, b, makes, its, e))), subst (λ (x : ℕ). RootLeads st.step.w2 x []) e (st.step.keeps.0 its))) j d is taken root_is
        still r below (inr (inr is)) = inl (inr (inr is))

  pub makings_leave_it : MakingsLeaveIt V same asks batch_size roots slot w maps calls makers enders
  makings_leave_it lists all left i b makes m2 (n, progress.Goes) st = goes_on lists all left i b makes m2 n st
  makings_leave_it lists all left i b makes m2 (n, progress.Waits) st = st.told
  makings_leave_it lists all left i b makes m2 (n, progress.Done answer) st = stands lists all left i b makes m2 n answer st
  makings_leave_it lists all left i b makes m2 (n, progress.Refused fault) st = refused lists all left i b makes m2 n fault st
