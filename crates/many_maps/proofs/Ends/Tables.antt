-- A map that ends takes its tables away, one after another, and then its counter.
use Rattle.std.specs.Prelude.{Some, None, IsSome, ◌==◌}
use Rattle.std.proofs.Common.{◌≡◌, ℕ, suc, ◌*◌, ◌/◌, ◌<◌, ◌≤◌, Bool, true, false, List, [], ◌∷◌, ◌++◌, ◌⊎◌, inl, inr, refl, arith, ap, sym, subst, ◌∙◌}
use Rattle.std.proofs.lemmas.Bool.{cases_lt}
use Rattle.many_calls.specs.Given.SeizeWordsDeclared.at.At.TheVariants.{Word}
use Rattle.many_calls.specs.Given.SeizeWordsOp.{Taken}
use Rattle.many_calls.specs.Given.SeizeWordsMem.{Mem, Can, Took, value_at, word_at, with_block}
use Rattle.many_calls.specs.Given.SeizeWordsPlan.{Now, Seeing, May, MaySee, Steps, Ends}
use Rattle.many_calls.proofs.Given.SeizeWordsOneOwner.Operations.{may_load, loaded, may_take, taken}
use Rattle.many_calls.proofs.Given.SeizeWordsPlans.{see_if, ends_if}
use Rattle.many_calls.specs.Given.SeizeDeclared.rows.settle.Settled.{Settled}
use Rattle.many_calls.specs.Given.SeizeDeclared.rows.settle.Settled.TheVariants as settled
use Rattle.many_calls.specs.Given.SeizeWorld.{World, Hand, NoBlock, Making, InUse, Cutting, Handed, LeftTo, times, Parting}
use Rattle.many_calls.specs.Given.TablesNodes.{table_seen}
use Rattle.many_calls.specs.Given.RawEndMap.{standing, afters, after_read, drops, dropped, shards, given_back}
use Rattle.many_calls.specs.Given.TablesDeclared.node.Node.{Node}
use Rattle.many_calls.specs.Given.TablesDeclared.node.Node.TheVariants as node
use Rattle.many_calls.specs.Given.TablesDeclared.setting.Setting.{Setting}
use Rattle.many_calls.specs.Given.TablesDeclared.table.Table.{Table}
use Rattle.many_calls.specs.Given.TablesDeclared.table_words.TheConstants.{NEXT}
use Rattle.many_calls.specs.Given.RawDeclared.machines.end_map.EndMap.{EndMap}
use Rattle.many_calls.specs.Given.RawDeclared.machines.end_map.Ending.TheVariants as at
use Rattle.many_calls.specs.Given.RuleChart.{Chart}
use Rattle.many_calls.specs.Given.RuleWords.{Blocks, next_word}
use Rattle.many_calls.specs.Given.PointsSteps.{AreLawful}
use Rattle.many_calls.proofs.Given.RuleWords.TablesSeen.{block_of_link}
use Rattle.many_calls.specs.Kept.{IsMaking}
use Rattle.many_maps.specs.FactsEnds.{Looks, TakesLeft, TakesCounter, RootAt, IsJoined, IsTableYet, Since, BeganIn, IsAt, EndFacts, EndOutcome, EndStepSpec, back_of, from_table, wait_before}
use Rattle.many_maps.proofs.Ends.CountedBlocks.{next_apart, later_apart, one_more}
use Rattle.many_maps.proofs.Ends.Known.{back_once, table_value, table_next, went_still, went_away}
use Rattle.many_maps.proofs.Ends.Memory.{list_kept, taken_link}
use Rattle.many_maps.proofs.Ends.Worlds.{away}
use Rattle.many_maps.proofs.Ends.Frames.{left_spare, counter_spares, that_one}
use Rattle.many_maps.proofs.Ends.Since.{since_by, left_handed, making_handed, making_left, none_there, back_and_one, apart_by_hand}
use Rattle.many_maps.proofs.Ends.OrdersOn.{table_over, table_later}
use Rattle.many_maps.proofs.Ends.Said.{no_next, some_next}
use Rattle.many_calls.proofs.Given.General.{same_some, some_is as is_some_of}

module _ {K V : Type 0} (same : K → K → Bool) (hash : K → ℕ) (are : AreLawful same hash) (setting : Setting) (c : Chart K) (blocks : Blocks) (lists : ℕ → List ℕ) (owns : Bool) (caller : ℕ)
    (w0 : World (Node K V)) (may : BeganIn setting c blocks lists owns same hash w0) (e : EndMap) (setting_is : e.setting ≡ setting) (owns_is : e.owns ≡ owns) (past : ℕ)
    (w : World (Node K V)) (back : List ℕ) (since : Since setting c blocks lists owns caller w0 w past back) (roots : RootAt hash setting c blocks w.memory at.Reads) where
  abbrev Went : Mem (Node K V) → EndMap × Settled (Node K V) → Type 0
  Went m2 end = EndStepSpec setting c blocks lists owns caller hash w0 w past back m2 end

  -- what was joined stays, as another block is taken away
  pub joined_kept : (b : ℕ) → IsSome (value_at w.memory b) → times b (wait_before setting c blocks lists owns past) ≡ 0 → IsJoined w.memory e.first e.last (wait_before setting c blocks lists owns past)
      → IsJoined (with_block w.memory b None) e.first e.last (wait_before setting c blocks lists owns past)
  joined_kept b some apart (inl k) = inl k
  joined_kept b some apart (inr (done, p, is, last, there)) =
      inr (done, p, is, last, list_kept w.memory (with_block w.memory b None) e.first (done ++ p ∷ []) (λ x on. taken_link w.memory b some x (λ e. other x on e)) there)
    where
      other : (x : ℕ) → 0 < times x (done ++ p ∷ []) → x ≡ b → ⊥
      other x on e =
          let k = subst (λ (y : ℕ). 0 < times y (done ++ p ∷ [])) e on in let l = ap (times b) is in omega (arith, k, l, apart)

  -- a table
  module _ (t : ℕ) (is_past : past ≡ suc t) (here : IsAt setting c blocks lists owns e t) (joined : IsJoined w.memory e.first e.last (wait_before setting c blocks lists owns past))
      (all : back_of setting c blocks lists owns ≡ back ++ blocks.table t ∷ from_table setting c blocks lists owns past) where
    apart : (times (blocks.table t) back ≡ 0) × (times (blocks.table t) (from_table setting c blocks lists owns past) ≡ 0)
    apart = next_apart (blocks.table t) (back_of setting c blocks lists owns) back (from_table setting c blocks lists owns past) (back_once same hash are setting c blocks lists owns caller w0 may) all

    link_at : e.table.link / 2048 ≡ blocks.table t
    link_at = ap (λ (x : Table). x.link / 2048) here.table ∙ block_of_link (blocks.table t)

    its_value : value_at w.memory (blocks.table t) ≡ Some (node.Table (c.len t) (c.limit t) t)
    its_value = table_value same hash are setting c blocks lists owns caller w0 may w past back since t here.from here.made apart.0

    yet : IsTableYet setting c blocks lists owns caller w0 w past t
    yet = since.tables t here.from here.made apart.0

    left : (w.hand (blocks.table t) ≡ LeftTo caller) × (times (blocks.table t) (wait_before setting c blocks lists owns past) ≡ 0)
    left = yet.left (omega (arith, is_past))

    there : IsSome (value_at w.memory (blocks.table t))
    there = is_some_of (value_at w.memory (blocks.table t)) (node.Table (c.len t) (c.limit t) t) its_value

    next_there : word_at w.memory (Word (e.table.link / 2048) NEXT) ≡ Some (next_word hash c blocks t)
    next_there = ap (λ (b : ℕ). word_at w.memory (Word b NEXT)) link_at ∙ table_next same hash are setting c blocks lists owns caller w0 may w past back since t here.from here.made apart.0

    pub may_afters : May Can Took value_at w.memory (afters e)
    may_afters = may_load w.memory (after_read e) (Word (e.table.link / 2048) NEXT) (is_some_of (word_at w.memory (Word (e.table.link / 2048) NEXT)) (next_word hash c blocks t) next_there) (λ x is. tt)

    pub went_afters : (m2 : Mem (Node K V)) (end : EndMap × Settled (Node K V)) → Steps Took value_at w.memory (afters e) m2 end → Went m2 end
    went_afters m2 end s =
        let d = loaded w.memory (after_read e) (Word (e.table.link / 2048) NEXT) m2 end s in
        went_still same hash are setting c blocks lists owns caller w0 may w past back m2 end d.2
        (subst (λ (x : EndMap × Settled (Node K V)). EndOutcome setting c blocks lists owns caller hash w0 w w Looks past back x) (sym d.3) (
          refl,
          record {
            setting_is = setting_is;
            owns_is = owns_is;
            since = since;
            root = roots;
            point = (
              t,
              record { table = here.table; from = here.from; made = here.made },
              is_past,
              same_some d.0 (next_word hash c blocks t) (sym d.1 ∙ next_there),
              joined,
              all,
            );
          },
        ))

    -- it is taken away
    module _ (next : ℕ) (next_is : next ≡ next_word hash c blocks t) where
      abbrev gone : World (Node K V)
      gone = away w caller (blocks.table t)

      since_gone : Since setting c blocks lists owns caller w0 gone past (back ++ blocks.table t ∷ [])
      since_gone =
          since_by setting c blocks lists owns caller w0 w past back since gone (TakesLeft (blocks.table t)) (left_spare setting caller w (blocks.table t) there) (back ++ blocks.table t ∷ []) refl
          (λ x none. back_and_one x (blocks.table t) back none) (λ x none. refl)
          (λ x handed. (apart_by_hand w.hand x (blocks.table t) (λ own. left_handed (w.hand (blocks.table t)) left.0 (own ∙ handed)), refl))
          (λ x on. none_there x (blocks.table t ∷ []) (λ is. let k = subst (λ (y : ℕ). 0 < times y (wait_before setting c blocks lists owns past)) (that_one x (blocks.table t) is) on in let l = left.1 in omega (arith, k, l)))

      all_gone : back_of setting c blocks lists owns ≡ (back ++ blocks.table t ∷ []) ++ from_table setting c blocks lists owns past
      all_gone = one_more (back_of setting c blocks lists owns) back (from_table setting c blocks lists owns past) (blocks.table t) all

      joined_gone : IsJoined (with_block w.memory (blocks.table t) None) e.first e.last (wait_before setting c blocks lists owns past)
      joined_gone = joined_kept (blocks.table t) there left.1 joined

      abbrev NextIs : Type 0
      NextIs = ((next ≡ 0) × (c.past ≤ suc t)) ⊎ ((next ≡ blocks.table (suc t) * 2048) × (suc t < c.past) × ((next == 0) ≡ false))

      next_cases : NextIs
      next_cases = by (cases_lt (suc t) c.past)
        where
          by : (suc t < c.past) ⊎ (c.past ≤ suc t) → NextIs
          by (inr none) = inl (next_is ∙ no_next hash c blocks t none, none)
          by (inl made) =
              let known = may.map.map.shows.linked (suc t) (let a = here.from in omega (arith, a)) made in
              let some = (may.map.map.shows.table_numbers (suc t) made known).0 in
              let is = next_is ∙ some_next hash c blocks t made in
              inr (is, made, ap (λ (x : ℕ). x == 0) is ∙ not_zero (blocks.table (suc t)) some)
            where
              not_zero : (b : ℕ) → 0 < b → (b * 2048 == 0) ≡ false
              not_zero b some = grind (arith, some)

      later_value : (made : suc t < c.past) → value_at (with_block w.memory (blocks.table t) None) (next / 2048) ≡ Some (node.Table (c.len (suc t)) (c.limit (suc t)) (suc t))
      later_value made =
          let from : c.first ≤ suc t = (let a = here.from in omega (arith, a)) in
          ap (λ (x : ℕ). value_at (with_block w.memory (blocks.table t) None) (x / 2048)) (next_is ∙ some_next hash c blocks t made)
          ∙ ap (value_at (with_block w.memory (blocks.table t) None)) (block_of_link (blocks.table (suc t)))
          ∙ table_value same hash are setting c blocks lists owns caller w0 may gone past (back ++ blocks.table t ∷ []) since_gone (suc t) from made
          (later_apart (blocks.table (suc t)) (back_of setting c blocks lists owns) (back ++ blocks.table t ∷ []) (from_table setting c blocks lists owns past) (back_once same hash are setting c blocks lists owns caller w0 may) all_gone
          (table_later setting c blocks lists owns (suc t) past (let p = is_past in omega (arith, p)) made))

      abbrev over_then : Type 0
      over_then = EndFacts setting c blocks lists owns caller hash w0 gone (standing e at.Shards) past (back ++ blocks.table t ∷ [])

      last_table : c.past ≤ suc t → over_then
      last_table none =
          let p : past ≡ c.past = (let a = here.made in let b = is_past in omega (arith, a, b, none)) in
          record {
            setting_is = setting_is;
            owns_is = owns_is;
            since = since_gone;
            root = roots;
            point = (
              p,
              joined_gone,
              all_gone ∙ ap (λ (l : List ℕ). (back ++ blocks.table t ∷ []) ++ l) (table_over setting c blocks lists owns past (omega (arith, p))),
            );
          }

      next_table : (made : suc t < c.past) (value : Node K V) → value_at (with_block w.memory (blocks.table t) None) (next / 2048) ≡ Some value
          → EndFacts setting c blocks lists owns caller hash w0 gone (record e { table = table_seen next value; stands = at.Carries }) past (back ++ blocks.table t ∷ [])
      next_table made value seen =
          let value_is : value ≡ node.Table (c.len (suc t)) (c.limit (suc t)) (suc t) = same_value (sym seen ∙ later_value made) in
          record {
            setting_is = setting_is;
            owns_is = owns_is;
            since = since_gone;
            root = roots;
            point = (
              subst (λ (u : ℕ). IsAt setting c blocks lists owns (record e { table = table_seen next value; stands = at.Carries }) u) (sym is_past) record {
                table = ap (table_seen next) value_is ∙ ap (λ (x : ℕ). record { link = x; len = c.len (suc t); limit = c.limit (suc t); turn = suc t }) (next_is ∙ some_next hash c blocks t made);
                from = (let a = here.from in omega (arith, a));
                made = made;
              },
              joined_gone,
              all_gone,
            );
          }
        where
          same_value : {x y : Node K V} → Some x ≡ Some y → x ≡ y
          same_value k = cc k

      see_dropped : (value : Node K V) → MaySee (value_at (with_block w.memory (blocks.table t) None)) (dropped e next (Taken value))
      see_dropped value = see_if (value_at (with_block w.memory (blocks.table t) None)) (next == 0) (Now (standing e at.Shards, settled.Gave value))
          (Seeing (next / 2048) (λ other. Now (record e { table = table_seen next other; stands = at.Carries }, settled.Gave value))) (λ b. tt) (λ b. by next_cases b)
        where
          by : NextIs → (next == 0) ≡ false → IsSome (value_at (with_block w.memory (blocks.table t) None) (next / 2048))
              × ((other : Node K V) → value_at (with_block w.memory (blocks.table t) None) (next / 2048) ≡ Some other → Unit {0})
          by (inl none) b = absurd (let z = none.0 in grind (arith, b, z))
          by (inr k) b = (is_some_of (value_at (with_block w.memory (blocks.table t) None) (next / 2048)) (node.Table (c.len (suc t)) (c.limit (suc t)) (suc t)) (later_value k.1), λ other q. tt)

      pub may_drops : May Can Took value_at w.memory (drops e next)
      may_drops = may_take w.memory (dropped e next) (e.table.link / 2048) (subst (λ (b : ℕ). IsSome (value_at w.memory b)) (sym link_at) there)
          (λ value is. subst (λ (b : ℕ). MaySee (value_at (with_block w.memory b None)) (dropped e next (Taken value))) (sym link_at) (see_dropped value))

      drops_told : (value : Node K V) → value_at w.memory (blocks.table t) ≡ Some value → (end : EndMap × Settled (Node K V))
          → Ends (value_at (with_block w.memory (blocks.table t) None)) (dropped e next (Taken value)) end → EndOutcome setting c blocks lists owns caller hash w0 w gone (TakesLeft (blocks.table t)) past back end
      drops_told value is end ends =
          elim (ends_if (value_at (with_block w.memory (blocks.table t) None)) (next == 0) (Now (standing e at.Shards, settled.Gave value))
          (Seeing (next / 2048) (λ other. Now (record e { table = table_seen next other; stands = at.Carries }, settled.Gave value))) end ends)
          as (λ _. EndOutcome setting c blocks lists owns caller hash w0 w gone (TakesLeft (blocks.table t)) past back end) [
            | inl h ↦ subst (λ (x : EndMap × Settled (Node K V)). EndOutcome setting c blocks lists owns caller hash w0 w gone (TakesLeft (blocks.table t)) past back x) (sym h.1) (blocks.table t, refl, is, none next_cases h.0)
            | inr h ↦ subst (λ (x : EndMap × Settled (Node K V)). EndOutcome setting c blocks lists owns caller hash w0 w gone (TakesLeft (blocks.table t)) past back x) (sym h.1.2) (blocks.table t, refl, is, some next_cases h.0 h.1.0 h.1.1)
          ]
        where
          none : NextIs → (next == 0) ≡ true → over_then
          none (inl k) b = last_table k.1
          none (inr k) b = absurd (let z = k.2 in cc (b, z))

          some : NextIs → (next == 0) ≡ false → (other : Node K V) → value_at (with_block w.memory (blocks.table t) None) (next / 2048) ≡ Some other
              → EndFacts setting c blocks lists owns caller hash w0 gone (record e { table = table_seen next other; stands = at.Carries }) past (back ++ blocks.table t ∷ [])
          some (inl k) b other seen = absurd (let z = k.0 in grind (arith, b, z))
          some (inr k) b other seen = next_table k.1 other seen

      pub went_drops : (m2 : Mem (Node K V)) (end : EndMap × Settled (Node K V)) → Steps Took value_at w.memory (drops e next) m2 end → Went m2 end
      went_drops m2 end s =
          let d = taken w.memory (dropped e next) (e.table.link / 2048) m2 end s in
          let value_is : value_at w.memory (blocks.table t) ≡ Some d.0 = ap (value_at w.memory) (sym link_at) ∙ d.1 in
          went_away same hash are setting c blocks lists owns caller w0 may w past back m2 end (blocks.table t) d.0 apart.0
          (inr (t, here.from, here.made, refl)) left.0
          (inl yet.still.over) value_is (d.2 ∙ ap (λ (x : ℕ). with_block w.memory x None) link_at)
          (drops_told d.0 value_is end (subst (λ (b : ℕ). Ends (value_at (with_block w.memory b None)) (dropped e next (Taken d.0)) end) link_at d.3))

  -- the counter
  module _ (is_past : past ≡ c.past) (joined : IsJoined w.memory e.first e.last (wait_before setting c blocks lists owns past)) (all : back_of setting c blocks lists owns ≡ back ++ setting.counter ∷ []) where
    counter_apart : times setting.counter back ≡ 0
    counter_apart = (next_apart setting.counter (back_of setting c blocks lists owns) back [] (back_once same hash are setting c blocks lists owns caller w0 may) all).0

    its : (value_at w.memory setting.counter ≡ Some node.Shards) × IsMaking (w.hand setting.counter)
    its = since.counter counter_apart

    counter_there : IsSome (value_at w.memory setting.counter)
    counter_there = is_some_of (value_at w.memory setting.counter) node.Shards its.0

    counter_at : e.setting.counter ≡ setting.counter
    counter_at = ap (λ (s : Setting). s.counter) setting_is

    waits_apart : (x : ℕ) → 0 < times x (wait_before setting c blocks lists owns past) → times x (setting.counter ∷ []) ≡ 0
    waits_apart x on = apart_by_hand w.hand x setting.counter (λ own. making_left (w.hand setting.counter) its.1 (own ∙ since.waits x on))

    pub may_shards : May Can Took value_at w.memory (shards e)
    may_shards = may_take w.memory (given_back e (standing e at.Sets)) e.setting.counter (subst (λ (b : ℕ). IsSome (value_at w.memory b)) (sym counter_at) counter_there) (λ value is. tt)

    abbrev gone_counter : World (Node K V)
    gone_counter = away w caller setting.counter

    counter_told : (value : Node K V) → value_at w.memory setting.counter ≡ Some value
        → EndOutcome setting c blocks lists owns caller hash w0 w gone_counter (TakesCounter setting.counter) past back (standing e at.Sets, settled.Gave value)
    counter_told value is = (
      setting.counter,
      refl,
      is,
      record {
        setting_is = setting_is;
        owns_is = owns_is;
        since =
            since_by setting c blocks lists owns caller w0 w past back since gone_counter (TakesCounter setting.counter) (counter_spares setting caller w setting.counter counter_there) (back ++ setting.counter ∷ []) refl
            (λ x none. back_and_one x setting.counter back none) (λ x none. refl)
            (λ x handed. (apart_by_hand w.hand x setting.counter (λ own. making_handed (w.hand setting.counter) its.1 (own ∙ handed)), refl)) waits_apart;
        root = roots;
        point = (
          is_past,
          joined_kept setting.counter counter_there (none_there setting.counter (wait_before setting c blocks lists owns past) (λ on. making_left (w.hand setting.counter) its.1 (since.waits setting.counter on))) joined,
          all,
        );
      },
    )

    made_by_holder : (h : Hand) → IsMaking h → (i : ℕ) × (h ≡ Making i)
    made_by_holder NoBlock u = absurd u
    made_by_holder (Making i) u = (i, refl)
    made_by_holder (InUse o) u = absurd u
    made_by_holder (Parting i) u = absurd u
    made_by_holder (Cutting i) u = absurd u
    made_by_holder Handed u = absurd u
    made_by_holder (LeftTo i) u = absurd u

    pub went_shards : (m2 : Mem (Node K V)) (end : EndMap × Settled (Node K V)) → Steps Took value_at w.memory (shards e) m2 end → Went m2 end
    went_shards m2 end s =
        let d = taken w.memory (given_back e (standing e at.Sets)) e.setting.counter m2 end s in
        let value_is : value_at w.memory setting.counter ≡ Some d.0 = ap (value_at w.memory) (sym counter_at) ∙ d.1 in
        record {
          w2 = gone_counter;
          deed = TakesCounter setting.counter;
          past2 = past;
          runs = (gone_counter, (Taken d.0, with_block w.memory setting.counter None, made_by_holder (w.hand setting.counter) its.1, (value_is, refl), refl), refl);
          memory = sym (d.2 ∙ ap (λ (x : ℕ). with_block w.memory x None) counter_at);
          fresh = counter_apart;
          spares = counter_spares setting caller w setting.counter counter_there;
          its = (refl, refl, its.1);
          told = subst (λ (x : EndMap × Settled (Node K V)). EndOutcome setting c blocks lists owns caller hash w0 w gone_counter (TakesCounter setting.counter) past back x) (sym d.3) (counter_told d.0 value_is);
        }
