-- Reclaiming what was left over at roots, alone, step by step up to its end.
use Rattle.std.specs.Prelude.{Option, Some, None, IsSome, if◌then◌else◌, ◌==◌, ◌/◌, map}
use Rattle.std.proofs.Common.{◌≡◌, ◌≢◌, ℕ, zero, suc, ◌+◌, ◌-◌, ◌*◌, ◌<◌, ◌≤◌, Bool, true, false, nat_lt, List, [], ◌∷◌, ◌++◌, ◌⊎◌, inl, inr, refl, arith, ap, sym, subst, ◌∙◌}
use Rattle.std.proofs.lemmas.List.{append-nil, append_assoc, map-append}
use Rattle.seize_words.specs.declared.at.At.TheVariants.{Root, Used, Entry}
use Rattle.seize_words.specs.OneMemory.Op.{Store, Stored, Taken}
use Rattle.seize_words.specs.OneMemory.Mem.{Mem, value_at, word_at, with_word, with_block, Can, Took}
use Rattle.seize_words.specs.OneMemory.Plan.{Then, Now, Seeing, Ends, MaySee, May, Steps}
use Rattle.seize_words.proofs.OneMemory.OneOwner.Operations.{loaded, stored, taken, may_load, may_store, may_take}
use Rattle.seize.specs.declared.states.TheConstants.{NEXT}
use Rattle.seize.specs.declared.rows.settle.Settled.{Settled}
use Rattle.seize.specs.declared.rows.settle.Settled.TheVariants.{Goes, Waits, Gave, Done}
use Rattle.seize.specs.declared.rows.reclaim_all.ReclaimAll.{ReclaimAll}
use Rattle.seize.specs.declared.rows.reclaim_all.Reclaiming.{Reclaiming}
use Rattle.seize.specs.declared.rows.reclaim_all.Reclaiming.TheVariants as at
use Rattle.seize.specs.ReclaimAll.{standing, next_root, plan_at, reclaim_all_plan, root_read, left_there, next_read, given_back as given_there, to}
use Rattle.seize.specs.Further.{ListFrom}
use Rattle.seize.specs.Law.{holds}
use Rattle.seize.specs.World.{IsOutside, LeftTo, Use, Vacant, times}
use Rattle.seize_model.specs.Alone.Alone.{History, IsHistory, AreValues, at_rest, blocks_in, cleared}
use Rattle.seize_acts.specs.Reclaims.Roots.{all_lists, all_cleared, LeadsTo, LeftAt, Frees, named_at, unused_at, IsIn, IsPast, ReclaimedAtPoint, IsClearing, IsCleared}
use Rattle.seize_model.proofs.Given.SeizeMemoryWords.Named.{link-block}
use Rattle.seize_model.proofs.Alone.Histories.Reached.{history_reached}
use Rattle.seize_model.proofs.Alone.Histories.Users.{operated_history, cleared_history}
use Rattle.seize_model.proofs.Alone.Histories.Uses.{none_held}
use Rattle.seize_model.proofs.Alone.Spared.Fewer.{take_fewer}
use Rattle.seize_acts.proofs.Reclaims.Roots.Listed.{times_append, lists_split, cleared_append, cleared_hand, next_some, next_none}
use Rattle.seize_acts.proofs.Reclaims.Roots.Freed.{entry_some, kept_value, kept_next, frees_taken, frees_named, frees_unused, frees_passed}
use Rattle.seize_words.proofs.General.{less_not as le_of, less_so as lt_of}

-- how many steps it takes at most until it reclaims a value, or ends
abbrev pub steps_at : ℕ → Reclaiming → ℕ
steps_at roots (at.Roots root) = 6 * (roots - root)
steps_at roots (at.Nexts root block) = 6 * (roots - root) - 1
steps_at roots (at.Takes root block next) = 6 * (roots - root) - 2
steps_at roots (at.Empties root) = 6 * (roots - root) - 3
steps_at roots (at.Unuses root) = 6 * (roots - root) - 4
steps_at roots _ = 0

zero_of : (w : ℕ) → (w == 0) ≡ true → w ≡ 0
zero_of w e = grind (arith, e)

abbrev pub clear_to_go : ReclaimAll → ℕ
clear_to_go c = steps_at c.roots c.stands

-- blocks that are cleared leave the slots as they are
cleared_uses : (blocks : List ℕ) (h : History) (s : ℕ) → (all_cleared blocks h).uses s ≡ h.uses s
cleared_uses [] h s = refl
cleared_uses (b ∷ blocks) h s = cleared_uses blocks (cleared b h) s

module _ {T : Type 0} (defers : T → Option ℕ) (left_over : T → Bool) (batch_size roots : ℕ) (m : Mem T) (h : History) (lists : ℕ → List ℕ) where
  -- what a step comes to
  abbrev pub Comes : ℕ → Mem T → List T → ReclaimAll → Mem T → Settled T → Type 0
  Comes steps m2 given c m3 Goes = IsClearing defers left_over batch_size roots m h lists c m3 given × (clear_to_go c < steps) × (blocks_in m3 ≤ blocks_in m2)
  Comes steps m2 given c m3 Waits = ⊥
  Comes steps m2 given c m3 (Gave value) = IsClearing defers left_over batch_size roots m h lists c m3 (given ++ value ∷ []) × (blocks_in m3 < blocks_in m2)
  Comes steps m2 given c m3 Done = IsCleared defers left_over batch_size roots m h lists m3 given

  -- what stays the same at each point
  record Since (m2 : Mem T) (given : List T) (back : List ℕ) : Type 0 where
    history : IsHistory defers batch_size roots m h
    left : LeftAt left_over m h roots lists
    vacant : (s : ℕ) → h.uses s ≡ Vacant
    now : IsHistory defers batch_size roots m2 (all_cleared back h)
    values : AreValues defers batch_size roots m back given

  since : (c : ReclaimAll) (m2 : Mem T) (given : List T) (k : IsClearing defers left_over batch_size roots m h lists c m2 given) → Since m2 given k.back
  since c m2 given k = record { history = k.history; left = k.left; vacant = k.vacant; now = k.now; values = k.values }

  module _ (m2 : Mem T) (given : List T) (back : List ℕ) (s : Since m2 given back) where
    -- it goes on with the root behind one
    go_next : (c : ReclaimAll) (r : ℕ) (t : Bool) → nat_lt r (c.roots - 1) ≡ t → c.roots ≡ roots → r < roots → back ≡ all_lists lists (suc r) → Frees lists (suc r) (suc r) m m2 back
        → (end : ReclaimAll) → end ≡ (if t then standing c (at.Roots (r + 1)) else standing c at.Over)
        → IsClearing defers left_over batch_size roots m h lists end m2 given × (clear_to_go end ≤ 6 * (roots - r) - 6)
    go_next c r true e roots_are lt order f end is =
        let le : r + 1 < roots = omega (arith, lt_of r (c.roots - 1) e, roots_are) in
        let one : suc r ≡ r + 1 = omega arith in
        subst (λ (d : ReclaimAll). IsClearing defers left_over batch_size roots m h lists d m2 given × (clear_to_go d ≤ 6 * (roots - r) - 6)) (sym is) (
          record {
            history = s.history;
            left = s.left;
            vacant = s.vacant;
            roots_are = roots_are;
            back = back;
            stands = (le, order ∙ ap (all_lists lists) one);
            now = s.now;
            values = s.values;
            frees = subst (λ (n : ℕ). Frees lists n n m m2 back) one f;
          },
          omega (arith, roots_are),
        )
    go_next c r false e roots_are lt order f end is =
        let one : suc r ≡ roots = omega (arith, le_of r (c.roots - 1) e, roots_are, lt) in
        subst (λ (d : ReclaimAll). IsClearing defers left_over batch_size roots m h lists d m2 given × (clear_to_go d ≤ 6 * (roots - r) - 6)) (sym is) (
          record {
            history = s.history;
            left = s.left;
            vacant = s.vacant;
            roots_are = roots_are;
            back = back;
            stands = order ∙ ap (all_lists lists) one;
            now = s.now;
            values = s.values;
            frees = subst (λ (n : ℕ). Frees lists n n m m2 back) one f;
          },
          omega arith,
        )

    -- a step that ends so
    went : (steps : ℕ) (c : ReclaimAll) (end : ReclaimAll × Settled T) → end ≡ (c, Goes) → IsClearing defers left_over batch_size roots m h lists c m2 given × (clear_to_go c < steps)
        → (m1 : Mem T) → blocks_in m2 ≤ blocks_in m1 → Comes steps m1 given end.0 m2 end.1
    went steps c end e k m1 le = subst (λ (p : ReclaimAll × Settled T). Comes steps m1 given p.0 m2 p.1) (sym e) (k.0, k.1, le)

    -- the first block of the list of a root
    first_in : (r b : ℕ) (rest : List ℕ) → r < roots → back ≡ all_lists lists r → lists r ≡ b ∷ rest → IsIn lists roots r b rest back
    first_in r b rest lt order list = record { below = lt; before = []; order = order ∙ sym (append-nil (all_lists lists r)); list = list }

    -- a block that caller 0 was not left wasn't reclaimed
    not_back : (x r : ℕ) → r < roots → back ≡ all_lists lists r → h.hand x ≢ LeftTo 0 → times x back ≡ 0
    not_back x r lt order ne = by (times x back) refl
      where
        by : (n : ℕ) → times x back ≡ n → times x back ≡ 0
        by zero e = e
        by (suc n) e =
            let k = lists_split lists r roots (omega (arith, lt)) in
            let e1 = ap (times x) k.1 in
            let e2 = times_append x (all_lists lists r) k.0 in
            let e3 = ap (times x) order in
            absurd (ne (s.left.left x (omega (arith, e, e1, e2, e3))))

    module _ (c : ReclaimAll) (roots_are : c.roots ≡ roots) (end : ReclaimAll × Settled T) where
      -- the look at the block that a root names
      abbrev look : ℕ → ℕ → Bool → Then T (ReclaimAll × Settled T)
      look r w t = if t then to (next_root c r) else Seeing (w / 2048) (λ value. left_there c r w (left_over value))

      passes : (r : ℕ) → lists r ≡ [] → r < roots → back ≡ all_lists lists r → Frees lists r r m m2 back → end ≡ (next_root c r, Goes) → Comes (6 * (roots - r)) m2 given end.0 m2 end.1
      passes r list lt order f e =
          let order2 : back ≡ all_lists lists (suc r) = order ∙ sym (ap (λ (l : List ℕ). all_lists lists r ++ l) list ∙ append-nil (all_lists lists r)) in
          let k = go_next c r (nat_lt r (c.roots - 1)) refl roots_are lt order2 (frees_passed lists m m2 back r f list) (next_root c r) refl in
          went (6 * (roots - r)) (next_root c r) end e (k.0, omega (arith, k.1, lt)) m2 (omega arith)

      finds : (r w b : ℕ) (rest : List ℕ) → lists r ≡ b ∷ rest → r < roots → back ≡ all_lists lists r → Frees lists r r m m2 back → ListFrom m w (b ∷ rest)
          → end ≡ (standing c (at.Nexts r w), Goes) → Comes (6 * (roots - r)) m2 given end.0 m2 end.1
      finds r w b rest list lt order f from e =
          went (6 * (roots - r)) (standing c (at.Nexts r w)) end e (
            record {
              history = s.history;
              left = s.left;
              vacant = s.vacant;
              roots_are = roots_are;
              back = back;
              stands = (b, rest, first_in r b rest lt order list, from);
              now = s.now;
              values = s.values;
              frees = f;
            },
            omega (arith, lt, roots_are),
          ) m2 (omega arith)

      seen : (o : Option T) (v value : T) (x : Bool) → o ≡ Some v → o ≡ Some value → left_over value ≡ x → left_over v ≡ x
      seen o v value x e k is = subst (λ (u : T). left_over u ≡ x) (cc (e, k)) is

      roots_by : (r w : ℕ) (t : Bool) (l : List ℕ) → (w == 0) ≡ t → lists r ≡ l → r < roots → back ≡ all_lists lists r → Frees lists r r m m2 back → LeadsTo left_over m h w l
          → Ends (value_at m2) (look r w t) end → Comes (6 * (roots - r)) m2 given end.0 m2 end.1
      roots_by r w true [] z list lt order f leads ends = passes r list lt order f ends
      roots_by r w true (b ∷ rest) z list lt order f leads ends =
          let from : ListFrom m w (b ∷ rest) = leads.1 in
          absurd (omega (arith, zero_of w z, from.1, from.2))
      roots_by r w false [] z list lt order f leads ends =
          let living = leads (λ e. grind (arith, z, e)) in
          let same = kept_value lists m m2 back r r (w / 2048) f (not_back (w / 2048) r lt order living.3) in
          let is = seen (value_at m2 (w / 2048)) ends.0 living.0 false ends.1 (same ∙ living.1) living.2 in
          passes r list lt order f (subst (λ (x : Bool). Ends (value_at m2) (left_there c r w x) end) is ends.2)
      roots_by r w false (b ∷ rest) z list lt order f leads ends =
          let from : ListFrom m w (b ∷ rest) = leads.1 in
          let named : w / 2048 ≡ b = ap (λ u. u / 2048) from.2 ∙ link-block b in
          let none = next_none left_over lists roots r b rest back (first_in r b rest lt order list) (s.left.once b) in
          let same = kept_value lists m m2 back r r b f none in
          let is = seen (value_at m2 b) ends.0 leads.0.0 true (subst (λ (x : ℕ). value_at m2 x ≡ Some ends.0) named ends.1) (same ∙ leads.0.1) leads.0.2 in
          finds r w b rest list lt order f from (subst (λ (x : Bool). Ends (value_at m2) (left_there c r w x) end) is ends.2)

      nexts_by : (r w block b next : ℕ) (rest : List ℕ) → IsIn lists roots r b rest back → Frees lists r r m m2 back → ListFrom m block (b ∷ rest) → word_at m2 (Entry (block / 2048) NEXT) ≡ Some w
          → end ≡ (standing c (at.Takes r block w), Goes) → Comes (6 * (roots - r) - 1) m2 given end.0 m2 end.1
      nexts_by r w block b next rest is f from word e =
          let named : block / 2048 ≡ b = ap (λ u. u / 2048) from.2 ∙ link-block b in
          let none = next_none left_over lists roots r b rest back is (s.left.once b) in
          let there : word_at m (Entry b NEXT) ≡ Some w = sym (kept_next lists m m2 back r r b f none) ∙ subst (λ (x : ℕ). word_at m2 (Entry x NEXT) ≡ Some w) named word in
          let same : from.0 ≡ w = cc (from.3, there) in
          went (6 * (roots - r) - 1) (standing c (at.Takes r block w)) end e (
            record {
              history = s.history;
              left = s.left;
              vacant = s.vacant;
              roots_are = roots_are;
              back = back;
              stands = (b, rest, is, from.2, there, subst (λ (x : ℕ). ListFrom m x rest) same from.4);
              now = s.now;
              values = s.values;
              frees = f;
            },
            let lt = is.below in omega (arith, lt, roots_are),
          ) m2 (omega arith)

  module _ (m2 : Mem T) (given : List T) (back : List ℕ) (s : Since m2 given back) (c : ReclaimAll) (roots_are : c.roots ≡ roots) (end : ReclaimAll × Settled T) where
    -- the next block is there
    there_in : (r b w : ℕ) (rest : List ℕ) → IsIn lists roots r b rest back → Frees lists r r m m2 back → word_at m (Entry b NEXT) ≡ Some w → IsSome (value_at m2 b)
    there_in r b w rest is f word =
        let none = next_none left_over lists roots r b rest back is (s.left.once b) in
        entry_some m2 b w (kept_next lists m m2 back r r b f none ∙ word)

    -- no slot is in use, so no section holds anything
    free : (b t : ℕ) → holds t b (all_cleared back h).log ≡ false
    free = none_held defers batch_size (at_rest defers m2 (all_cleared back h)) (history_reached defers batch_size roots m2 (all_cleared back h) s.now)
        (λ t. subst (λ (u : Use). IsOutside u) (sym (s.vacant t) ∙ sym (cleared_uses back h t)) tt)

    module _ (m3 : Mem T) (value : T) where
      after_take : (r b w : ℕ) (rest : List ℕ) → IsIn lists roots r b rest back → Frees lists r r m m2 back → word_at m (Entry b NEXT) ≡ Some w → value_at m2 b ≡ Some value → m3 ≡ with_block m2 b None
          → Since m3 (given ++ value ∷ []) (back ++ b ∷ []) × Frees lists r r m m3 (back ++ b ∷ []) × (blocks_in m3 < blocks_in m2)
      after_take r b w rest is f word value_is e =
          let some = there_in r b w rest is f word in
          let none = next_none left_over lists roots r b rest back is (s.left.once b) in
          let left = cleared_hand back b h none ∙ s.left.left b (next_some left_over lists roots r b rest back is) in
          let was : value_at m b ≡ Some value = sym (kept_value lists m m2 back r r b f none) ∙ value_is in (
            record {
              history = s.history;
              left = s.left;
              vacant = s.vacant;
              now = subst (λ (g : History). IsHistory defers batch_size roots m3 g) (sym (cleared_append back b h)) (cleared_history defers batch_size roots m2 m3 (all_cleared back h) s.now b (Taken value) left (inr (free b)) (value_is, e));
              values = map-append (value_at m) back (b ∷ []) ∙ ap (λ (l : List (Option T)). l ++ value_at m b ∷ []) s.values
                  ∙ ap (λ (o : Option T). map Some given ++ o ∷ []) was ∙ sym (map-append Some given (value ∷ []));
            },
            subst (λ (k : Mem T). Frees lists r r m k (back ++ b ∷ [])) (sym e) (frees_taken lists m m2 back r r b f some),
            subst (λ (k : Mem T). blocks_in k < blocks_in m2) (sym e) (take_fewer m2 b some),
          )

      takes_by : (r b next : ℕ) (t : Bool) (rest : List ℕ) → (next == 0) ≡ t → IsIn lists roots r b rest back → Frees lists r r m m2 back → word_at m (Entry b NEXT) ≡ Some next → ListFrom m next rest
          → value_at m2 b ≡ Some value → m3 ≡ with_block m2 b None → end ≡ (standing c (if t then at.Empties r else at.Nexts r next), Gave value)
          → Comes (6 * (roots - r) - 2) m2 given end.0 m3 end.1
      takes_by r b next true [] z is f word from value_is em e =
          let k = after_take r b next [] is f word value_is em in
          let order : back ++ b ∷ [] ≡ all_lists lists (suc r) =
          ap (λ (l : List ℕ). l ++ b ∷ []) is.order ∙ append_assoc (all_lists lists r) is.before (b ∷ []) ∙ sym (ap (λ (l : List ℕ). all_lists lists r ++ l) is.list) in
          let first = first_of is.before b is.list in
          subst (λ (p : ReclaimAll × Settled T). Comes (6 * (roots - r) - 2) m2 given p.0 m3 p.1) (sym e) (
            record {
              history = k.0.history;
              left = k.0.left;
              vacant = k.0.vacant;
              roots_are = roots_are;
              back = back ++ b ∷ [];
              stands = record { below = is.below; order = order; first = first.0; rest = first.1; list = first.2 };
              now = k.0.now;
              values = k.0.values;
              frees = k.1;
            },
            k.2,
          )
        where
          first_of : (before : List ℕ) (x : ℕ) → lists r ≡ before ++ x ∷ [] → (first : ℕ) × (more : List ℕ) × (lists r ≡ first ∷ more)
          first_of [] x list = (x, [], list)
          first_of (y ∷ before) x list = (y, before ++ x ∷ [], list)
      takes_by r b next true (d ∷ rest) z is f word from value_is em e = absurd (omega (arith, zero_of next z, from.1, from.2))
      takes_by r b next false [] z is f word from value_is em e = absurd (grind (arith, z, from))
      takes_by r b next false (d ∷ rest) z is f word from value_is em e =
          let k = after_take r b next (d ∷ rest) is f word value_is em in
          subst (λ (p : ReclaimAll × Settled T). Comes (6 * (roots - r) - 2) m2 given p.0 m3 p.1) (sym e) (
            record {
              history = k.0.history;
              left = k.0.left;
              vacant = k.0.vacant;
              roots_are = roots_are;
              back = back ++ b ∷ [];
              stands = (
                d,
                rest,
                record {
                  below = is.below;
                  before = is.before ++ b ∷ [];
                  order = ap (λ (l : List ℕ). l ++ b ∷ []) is.order ∙ append_assoc (all_lists lists r) is.before (b ∷ []);
                  list = is.list ∙ sym (append_assoc is.before (b ∷ []) (d ∷ rest));
                },
                from,
              );
              now = k.0.now;
              values = k.0.values;
              frees = k.1;
            },
            k.2,
          )

    module _ (m3 : Mem T) where
      empties_by : (r : ℕ) → IsPast lists roots r back → Frees lists r r m m2 back → m3 ≡ with_word m2 (Root r) 0 → end ≡ (standing c (at.Unuses r), Goes)
          → Comes (6 * (roots - r) - 3) m2 given end.0 m3 end.1
      empties_by r past f em e =
          let some = subst (λ (o : Option ℕ). IsSome o) (sym (f.other_root r (omega arith) ∙ (s.left.root r past.below).1)) refl in
          let s3 : Since m3 given back = record {
            history = s.history;
            left = s.left;
            vacant = s.vacant;
            now = operated_history defers batch_size roots m2 m3 (all_cleared back h) s.now (Store (Root r) 0) Stored tt (tt, em);
            values = s.values;
          } in
          went m3 given back s3 (6 * (roots - r) - 3) (standing c (at.Unuses r)) end e (
            record {
              history = s.history;
              left = s.left;
              vacant = s.vacant;
              roots_are = roots_are;
              back = back;
              stands = past;
              now = s3.now;
              values = s.values;
              frees = subst (λ (k : Mem T). Frees lists (suc r) r m k back) (sym em) (frees_named lists m m2 back r past.first past.rest f some past.list);
            },
            let lt = past.below in omega (arith, lt, roots_are),
          ) m2 (subst (λ (k : Mem T). blocks_in k ≤ blocks_in m2) (sym em) (omega arith))

      unuses_by : (r : ℕ) → IsPast lists roots r back → Frees lists (suc r) r m m2 back → m3 ≡ with_word m2 (Used r) 0 → end ≡ (next_root c r, Goes)
          → Comes (6 * (roots - r) - 4) m2 given end.0 m3 end.1
      unuses_by r past f em e =
          let some = subst (λ (o : Option ℕ). IsSome o) (sym (f.other_used r (omega arith))) (s.left.used r past.below) in
          let s3 : Since m3 given back = record {
            history = s.history;
            left = s.left;
            vacant = s.vacant;
            now = operated_history defers batch_size roots m2 m3 (all_cleared back h) s.now (Store (Used r) 0) Stored tt (tt, em);
            values = s.values;
          } in
          let f3 = subst (λ (k : Mem T). Frees lists (suc r) (suc r) m k back) (sym em) (frees_unused lists m m2 back r past.first past.rest f some past.list) in
          let k = go_next m3 given back s3 c r (nat_lt r (c.roots - 1)) refl roots_are past.below past.order f3 (next_root c r) refl in
          went m3 given back s3 (6 * (roots - r) - 4) (next_root c r) end e (k.0, let lt = past.below in omega (arith, k.1, lt)) m2
          (subst (λ (k : Mem T). blocks_in k ≤ blocks_in m2) (sym em) (omega arith))

  module _ (c : ReclaimAll) (m2 : Mem T) (given : List T) (mid : IsClearing defers left_over batch_size roots m h lists c m2 given) where
    s : Since m2 given mid.back
    s = since c m2 given mid

    -- the name of the block that it stands at
    block_is : (r block b : ℕ) (rest : List ℕ) → ListFrom m block (b ∷ rest) → block / 2048 ≡ b
    block_is r block b rest from = ap (λ u. u / 2048) from.2 ∙ link-block b

    -- each step comes to what it should
    module _ (m3 : Mem T) (end : ReclaimAll × Settled T) where
      ended : (r block next : ℕ) (value : T) (t : Bool)
          → Ends (value_at (with_block m2 (block / 2048) None)) (if t then Now (standing c (at.Empties r), Gave value) else Now (standing c (at.Nexts r next), Gave value)) end
          → end ≡ (standing c (if t then at.Empties r else at.Nexts r next), Gave value)
      ended r block next value true e = e
      ended r block next value false e = e

      comes_at : (p : Reclaiming) → ReclaimedAtPoint m lists roots p mid.back × Frees lists (named_at p roots) (unused_at p roots) m m2 mid.back
          → Steps Took value_at m2 (plan_at defers left_over c p) m3 end → Comes (steps_at roots p) m2 given end.0 m3 end.1
      comes_at (at.Roots r) k st =
          let d = loaded m2 (root_read left_over c r) (Root r) m3 end st in
          let there = s.left.root r k.0.0 in
          let same : d.0 ≡ there.0 = cc (d.1, k.1.other_root r (omega arith), there.1) in
          subst (λ (n : Mem T). Comes (6 * (roots - r)) m2 given end.0 n end.1) (sym d.2)
          (roots_by m2 given mid.back s c mid.roots_are end r d.0 (d.0 == 0) (lists r) refl refl k.0.0 k.0.1 k.1
          (subst (λ (w : ℕ). LeadsTo left_over m h w (lists r)) (sym same) there.2) d.3)
      comes_at (at.Nexts r block) k st =
          let d = loaded m2 (next_read c r block) (Entry (block / 2048) NEXT) m3 end st in
          subst (λ (n : Mem T). Comes (6 * (roots - r) - 1) m2 given end.0 n end.1) (sym d.2)
          (nexts_by m2 given mid.back s c mid.roots_are end r d.0 block k.0.0 0 k.0.1 k.0.2 k.1 k.0.3 d.1 d.3)
      comes_at (at.Takes r block next) k st =
          let d = taken m2 (given_there c r next) (block / 2048) m3 end st in
          let named : block / 2048 ≡ k.0.0 = ap (λ u. u / 2048) k.0.3 ∙ link-block k.0.0 in
          takes_by m2 given mid.back s c mid.roots_are end m3 d.0 r k.0.0 next (next == 0) k.0.1 refl k.0.2 k.1 k.0.4 k.0.5
          (subst (λ (x : ℕ). value_at m2 x ≡ Some d.0) named d.1) (subst (λ (x : ℕ). m3 ≡ with_block m2 x None) named d.2) (ended r block next d.0 (next == 0) d.3)
      comes_at (at.Empties r) k st = let d = stored m2 (λ out. to (standing c (at.Unuses r))) (Root r) 0 m3 end st in empties_by m2 given mid.back s c mid.roots_are end m3 r k.0 k.1 d.0 d.1
      comes_at (at.Unuses r) k st = let d = stored m2 (λ out. to (next_root c r)) (Used r) 0 m3 end st in unuses_by m2 given mid.back s c mid.roots_are end m3 r k.0 k.1 d.0 d.1
      comes_at at.Over k st =
          subst (λ (p : ReclaimAll × Settled T). Comes 0 m2 given p.0 m3 p.1) (sym st.1)
          (subst (λ (n : Mem T). IsCleared defers left_over batch_size roots m h lists n given) (sym st.0)
          (record {
            now = subst (λ (l : List ℕ). IsHistory defers batch_size roots m2 (all_cleared l h)) k.0 mid.now;
            values = subst (λ (l : List ℕ). AreValues defers batch_size roots m l given) k.0 mid.values;
            frees = subst (λ (l : List ℕ). Frees lists roots roots m m2 l) k.0 k.1;
          }))
      comes_at (at.Heads slot) k st = absurd k.0
      comes_at (at.Retakes slot) k st = absurd k.0
      comes_at (at.Leaves slot leave) k st = absurd k.0
      comes_at (at.Batches slot) k st = absurd k.0
      comes_at (at.Flushes slot settle) k st = absurd k.0
      comes_at (at.Frees slot) k st = absurd k.0

      pub comes : Steps Took value_at m2 (reclaim_all_plan defers left_over c) m3 end → Comes (clear_to_go c) m2 given end.0 m3 end.1
      comes st =
          subst (λ (n : ℕ). Comes (steps_at n c.stands) m2 given end.0 m3 end.1) (sym mid.roots_are) (comes_at c.stands (mid.stands, mid.frees) st)

    -- and each may be taken

    see_left : (r w : ℕ) (t : Bool) → MaySee (value_at m2) (left_there {T = T} c r w t)
    see_left r w true = tt
    see_left r w false = tt

    see_root : (r w : ℕ) (t : Bool) (l : List ℕ) → (w == 0) ≡ t → lists r ≡ l → r < roots → mid.back ≡ all_lists lists r → Frees lists r r m m2 mid.back → LeadsTo left_over m h w l
        → MaySee (value_at m2) (if t then to {T = T} (next_root c r) else Seeing (w / 2048) (λ value. left_there c r w (left_over value)))
    see_root r w true l z list lt order f leads = tt
    see_root r w false [] z list lt order f leads =
        let living = leads (λ e. grind (arith, z, e)) in
        let same = kept_value lists m m2 mid.back r r (w / 2048) f (not_back m2 given mid.back s (w / 2048) r lt order living.3) in
        (subst (λ (o : Option T). IsSome o) (sym (same ∙ living.1)) refl, λ value e. see_left r w (left_over value))
    see_root r w false (b ∷ rest) z list lt order f leads =
        let from : ListFrom m w (b ∷ rest) = leads.1 in
        let named = block_is r w b rest from in
        let none = next_none left_over lists roots r b rest mid.back (first_in m2 given mid.back s r b rest lt order list) (s.left.once b) in
        let same = kept_value lists m m2 mid.back r r b f none in
        (subst (λ (o : Option T). IsSome o) (sym (ap (value_at m2) named ∙ same ∙ leads.0.1)) refl, λ value e. see_left r w (left_over value))

    see_taken : (m3 : Mem T) (r next : ℕ) (value : T) (t : Bool)
        → MaySee {R = ReclaimAll × Settled T} (value_at m3) (if t then Now (standing c (at.Empties r), Gave value) else Now (standing c (at.Nexts r next), Gave value))
    see_taken m3 r next value true = tt
    see_taken m3 r next value false = tt

    may_at : (p : Reclaiming) → ReclaimedAtPoint m lists roots p mid.back × Frees lists (named_at p roots) (unused_at p roots) m m2 mid.back → May Can Took value_at m2 (plan_at defers left_over c p)
    may_at (at.Roots r) k =
        let there = s.left.root r k.0.0 in
        let word = k.1.other_root r (omega arith) ∙ there.1 in
        may_load m2 (root_read left_over c r) (Root r) (subst (λ (o : Option ℕ). IsSome o) (sym word) refl)
        (λ w e. (let same : w ≡ there.0 = cc (e, word) in
        see_root r w (w == 0) (lists r) refl refl k.0.0 k.0.1 k.1 (subst (λ (x : ℕ). LeadsTo left_over m h x (lists r)) (sym same) there.2)))
    may_at (at.Nexts r block) k =
        let named = block_is r block k.0.0 k.0.1 k.0.3 in
        let none = next_none left_over lists roots r k.0.0 k.0.1 mid.back k.0.2 (s.left.once k.0.0) in
        let from : ListFrom m block (k.0.0 ∷ k.0.1) = k.0.3 in
        let there = ap (λ (x : ℕ). word_at m2 (Entry x NEXT)) named ∙ kept_next lists m m2 mid.back r r k.0.0 k.1 none ∙ from.3 in
        may_load m2 (next_read c r block) (Entry (block / 2048) NEXT) (subst (λ (o : Option ℕ). IsSome o) (sym there) refl) (λ w e. tt)
    may_at (at.Takes r block next) k =
        let named : block / 2048 ≡ k.0.0 = ap (λ u. u / 2048) k.0.3 ∙ link-block k.0.0 in
        may_take m2 (given_there c r next) (block / 2048)
        (subst (λ (x : ℕ). IsSome (value_at m2 x)) (sym named) (there_in m2 given mid.back s c mid.roots_are (c, Goes) r k.0.0 next k.0.1 k.0.2 k.1 k.0.4))
        (λ value e. see_taken (with_block m2 (block / 2048) None) r next value (next == 0))
    may_at (at.Empties r) k =
        may_store m2 (λ out. to (standing c (at.Unuses r))) (Root r) 0 (subst (λ (o : Option ℕ). IsSome o) (sym (k.1.other_root r (omega arith) ∙ (s.left.root r k.0.below).1)) refl) tt
    may_at (at.Unuses r) k =
        may_store m2 (λ out. to (next_root c r)) (Used r) 0 (subst (λ (o : Option ℕ). IsSome o) (sym (k.1.other_used r (omega arith))) (s.left.used r k.0.below)) tt
    may_at at.Over k = tt
    may_at (at.Heads slot) k = absurd k.0
    may_at (at.Retakes slot) k = absurd k.0
    may_at (at.Leaves slot leave) k = absurd k.0
    may_at (at.Batches slot) k = absurd k.0
    may_at (at.Flushes slot settle) k = absurd k.0
    may_at (at.Frees slot) k = absurd k.0

    pub clear_may : May Can Took value_at m2 (reclaim_all_plan defers left_over c)
    clear_may = may_at c.stands (mid.stands, mid.frees)

-- as the step's outcome is known

module _ {T : Type 0} (defers : T → Option ℕ) (left_over : T → Bool) (batch_size roots : ℕ) (m : Mem T) (h : History) (lists : ℕ → List ℕ) (c : ReclaimAll) (m2 : Mem T) (given : List T)
    (mid : IsClearing defers left_over batch_size roots m h lists c m2 given) (m3 : Mem T) (c3 : ReclaimAll) (result : Settled T) (st : Steps Took value_at m2 (reclaim_all_plan defers left_over c) m3 (c3, result)) where
  clear_comes : (p : Settled T) → result ≡ p → Comes defers left_over batch_size roots m h lists (clear_to_go c) m2 given c3 m3 p
  clear_comes p e =
      subst (λ (q : Settled T). Comes defers left_over batch_size roots m h lists (clear_to_go c) m2 given c3 m3 q) e (comes defers left_over batch_size roots m h lists c m2 given mid m3 (c3, result) st)

  pub clear_still : (result ≡ Goes) ⊎ (result ≡ Waits) → IsClearing defers left_over batch_size roots m h lists c3 m3 given × (clear_to_go c3 < clear_to_go c) × (blocks_in m3 ≤ blocks_in m2)
  clear_still (inl e) = clear_comes Goes e
  clear_still (inr e) = absurd (clear_comes Waits e)
