-- A map that ends leaves a table over, with the pairs that it carries: they are reclaimed next, or joined to those before.
use Rattle.std.specs.Prelude.{◌≢◌, Option, Some, ◌==◌, if◌then◌else◌}
use Rattle.std.proofs.Common.{◌≡◌, ℕ, suc, ◌*◌, ◌/◌, ◌<◌, Bool, true, false, List, [], ◌∷◌, ◌++◌, ◌⊎◌, inl, inr, refl, arith, ap, sym, subst, ◌∙◌, eqb-true}
use Rattle.std.proofs.lemmas.List.{append-nil}
use Rattle.std.proofs.lemmas.Bool.{eqb-false}
use Rattle.many_calls.specs.Given.SeizeWordsDeclared.at.At.TheVariants.{Word}
use Rattle.many_calls.specs.Given.SeizeWordsOp.{Found}
use Rattle.many_calls.specs.Given.SeizeWordsMem.{Mem, Can, Took, value_at, word_at}
use Rattle.many_calls.specs.Given.SeizeWordsPlan.{Now, May, MaySee, Steps, Ends}
use Rattle.many_calls.proofs.Given.SeizeWordsOneOwner.Operations.{may_load, loaded}
use Rattle.many_calls.specs.Given.SeizeDeclared.rows.settle.Settled.{Settled}
use Rattle.many_calls.specs.Given.SeizeDeclared.rows.settle.Settled.TheVariants as settled
use Rattle.many_calls.specs.Given.SeizeFurther.{ListFrom, FurtherFrom}
use Rattle.many_calls.specs.Given.SeizeWorld.{World, Cutting, times, MayCut}
use Rattle.many_calls.proofs.Given.TablesLists.{table_list}
use Rattle.many_calls.specs.Given.TablesNodes.{deferred_word}
use Rattle.many_calls.specs.Given.RawEndMap.{standing, carries, list_read}
use Rattle.many_calls.specs.Given.TablesDeclared.node.Node.{Node}
use Rattle.many_calls.specs.Given.TablesDeclared.setting.Setting.{Setting}
use Rattle.many_calls.specs.Given.TablesDeclared.table.Table.{Table}
use Rattle.many_calls.specs.Given.TablesDeclared.table_words.TheConstants.{DEFERRED}
use Rattle.many_calls.specs.Given.RawDeclared.machines.end_map.EndMap.{EndMap}
use Rattle.many_calls.specs.Given.RawDeclared.machines.end_map.Ending.TheVariants as at
use Rattle.many_calls.specs.Given.RuleChart.{Chart}
use Rattle.many_calls.specs.Given.RuleWords.{Blocks}
use Rattle.many_calls.specs.Given.PointsSteps.{AreLawful}
use Rattle.many_calls.proofs.Given.RuleWords.TablesSeen.{block_of_link}
use Rattle.many_maps.specs.Orders.{given_of, waits_of}
use Rattle.many_maps.specs.FactsEnds.{LeavesTable, IsJoined, RootAt, HasDeferred, IsTableYet, Since, BeganIn, IsAt, EndFacts, EndOutcome, EndStepSpec, back_of, from_table, wait_before}
use Rattle.many_maps.proofs.Ends.CountedBlocks.{later_apart}
use Rattle.many_maps.proofs.Ends.Known.{back_once, table_value}
use Rattle.many_maps.proofs.Ends.Worlds.{cut, over, over_left}
use Rattle.many_maps.proofs.Ends.Frames.{leaves_spare}
use Rattle.many_maps.proofs.Ends.Since.{since_left}
use Rattle.many_maps.proofs.Ends.OrdersOn.{counter_later, table_on, wait_more, before_owned, table_later}
use Rattle.many_calls.proofs.Given.General.{same_some, some_is as is_some_of}
use Rattle.many_calls.proofs.Given.SeizeRuleRows.Others.{with_here as hand_here}

-- with which word a list begins
pub list_cases : {T : Type 0} (m : Mem T) (word : ℕ) (l : List ℕ) → ListFrom m word l
    → ((l ≡ []) × (word ≡ 0)) ⊎ ((q : ℕ) × (rest : List ℕ) × (l ≡ q ∷ rest) × (word ≡ q * 2048) × ((word == 0) ≡ false))
list_cases m word [] h = inl (refl, h)
list_cases m word (q ∷ rest) h = inr (q, rest, refl, h.2, ap (λ (x : ℕ). x == 0) h.2 ∙ not_zero q h.1)
  where
    not_zero : (q : ℕ) → 0 < q → (q * 2048 == 0) ≡ false
    not_zero q some = grind (arith, some)

-- a list with a block begins with a word
pub list_some : {T : Type 0} (m : Mem T) (word p : ℕ) (done : List ℕ) → ListFrom m word (done ++ p ∷ []) → word ≢ 0
list_some m word p [] h e = let a = h.1 in let b = h.2 in omega (arith, a, b, e)
list_some m word p (x ∷ done) h e = let a = h.1 in let b = h.2 in omega (arith, a, b, e)

last_of : (done : List ℕ) (p : ℕ) → [] ≡ done ++ p ∷ [] → ⊥
last_of [] p e = cc e
last_of (x ∷ done) p e = cc e

nothing_given : (o : Bool) → given_of o [] ≡ []
nothing_given true = refl
nothing_given false = refl

nothing_waits : (o : Bool) → waits_of o [] ≡ []
nothing_waits true = refl
nothing_waits false = refl

module _ {K V : Type 0} (same : K → K → Bool) (hash : K → ℕ) (are : AreLawful same hash) (setting : Setting) (c : Chart K) (blocks : Blocks) (lists : ℕ → List ℕ) (owns : Bool) (caller : ℕ)
    (w0 : World (Node K V)) (may : BeganIn setting c blocks lists owns same hash w0) (e : EndMap) (setting_is : e.setting ≡ setting) (owns_is : e.owns ≡ owns) (t : ℕ)
    (w : World (Node K V)) (back : List ℕ) (since : Since setting c blocks lists owns caller w0 w t back) (roots : RootAt hash setting c blocks w.memory at.Reads)
    (here : IsAt setting c blocks lists owns e t) (joined : IsJoined w.memory e.first e.last (wait_before setting c blocks lists owns t))
    (all : back_of setting c blocks lists owns ≡ back ++ from_table setting c blocks lists owns t) where
  fresh : times (blocks.table t) back ≡ 0
  fresh = later_apart (blocks.table t) (back_of setting c blocks lists owns) back (from_table setting c blocks lists owns t) (back_once same hash are setting c blocks lists owns caller w0 may) all
      (table_later setting c blocks lists owns t t (omega arith) here.made)

  counter_fresh : times setting.counter back ≡ 0
  counter_fresh = later_apart setting.counter (back_of setting c blocks lists owns) back (from_table setting c blocks lists owns t) (back_once same hash are setting c blocks lists owns caller w0 may) all
      (counter_later setting c blocks lists owns t)

  yet : IsTableYet setting c blocks lists owns caller w0 w t t
  yet = since.tables t here.from here.made fresh

  carried : HasDeferred w (blocks.table t) (lists t)
  carried = yet.carries (omega arith)

  list : (word : ℕ) × (word_at w.memory (Word (blocks.table t) DEFERRED) ≡ Some word) × ListFrom w.memory word (lists t)
  list = subst (λ (field : Option ℕ). FurtherFrom w.memory (blocks.table t) field (lists t)) (table_list K V (c.len t) (c.limit t) t (may.map.map.rule.common.lens t here.made).0)
      (subst (λ (v : Node K V). FurtherFrom w.memory (blocks.table t) (deferred_word v) (lists t))
      (same_value (sym carried.are.1 ∙ table_value same hash are setting c blocks lists owns caller w0 may w t back since t here.from here.made fresh)) carried.are.2)
    where
      same_value : {x y : Node K V} → Some x ≡ Some y → x ≡ y
      same_value k = cc k

  link_at : e.table.link / 2048 ≡ blocks.table t
  link_at = ap (λ (x : Table). x.link / 2048) here.table ∙ block_of_link (blocks.table t)

  word_there : word_at w.memory (Word (e.table.link / 2048) DEFERRED) ≡ Some list.0
  word_there = ap (λ (b : ℕ). word_at w.memory (Word b DEFERRED)) link_at ∙ list.1

  -- where it goes on
  abbrev goes_on : ℕ → EndMap
  goes_on pair =
      if pair == 0 then standing e at.Afters else
      (if e.owns then standing e (at.Follows pair) else
      (if e.first == 0 then record e { first = pair; last = pair; stands = at.Follows pair } else standing e (at.Joins pair)))

  see_list : (pair : ℕ) → MaySee (value_at w.memory) (list_read {T = Node K V} e (Found pair))
  see_list pair = by (pair == 0) e.owns (e.first == 0)
    where
      by : (x y z : Bool) → MaySee {R = EndMap × Settled (Node K V)} (value_at w.memory) (if x then Now (standing e at.Afters, settled.Goes) else
          (if y then Now (standing e (at.Follows pair), settled.Goes) else
          (if z then Now (record e { first = pair; last = pair; stands = at.Follows pair }, settled.Goes) else Now (standing e (at.Joins pair), settled.Goes))))
      by true y z = tt
      by false true z = tt
      by false false true = tt
      by false false false = tt

  pub may_carries : May Can Took value_at w.memory (carries e)
  may_carries = may_load w.memory (list_read e) (Word (e.table.link / 2048) DEFERRED) (is_some_of (word_at w.memory (Word (e.table.link / 2048) DEFERRED)) list.0 word_there) (λ pair is. see_list pair)

  ends_list : (pair : ℕ) (end : EndMap × Settled (Node K V)) → Ends (value_at w.memory) (list_read {T = Node K V} e (Found pair)) end → end ≡ (goes_on pair, settled.Goes)
  ends_list pair end = by (pair == 0) e.owns (e.first == 0)
    where
      by : (x y z : Bool) → Ends {R = EndMap × Settled (Node K V)} (value_at w.memory) (if x then Now (standing e at.Afters, settled.Goes) else
          (if y then Now (standing e (at.Follows pair), settled.Goes) else
          (if z then Now (record e { first = pair; last = pair; stands = at.Follows pair }, settled.Goes) else Now (standing e (at.Joins pair), settled.Goes)))) end
          → end ≡ ((if x then standing e at.Afters else (if y then standing e (at.Follows pair) else (if z then record e { first = pair; last = pair; stands = at.Follows pair } else standing e (at.Joins pair)))), settled.Goes)
      by true y z k = k
      by false true z k = k
      by false false true k = k
      by false false false k = k

  -- the world in which the table is left over
  abbrev left : World (Node K V)
  left = over w caller (blocks.table t) (lists t)

  since_now : Since setting c blocks lists owns caller w0 left (suc t) back
  since_now = since_left same hash are setting c blocks lists owns caller w0 may w t back since here.from here.made fresh

  all_now : back_of setting c blocks lists owns ≡ back ++ (given_of owns (lists t) ++ blocks.table t ∷ from_table setting c blocks lists owns (suc t))
  all_now = all ∙ ap (λ (l : List ℕ). back ++ l) (table_on setting c blocks lists owns t here.made)

  waits_now : wait_before setting c blocks lists owns (suc t) ≡ wait_before setting c blocks lists owns t ++ waits_of owns (lists t)
  waits_now = wait_more setting c blocks lists owns t here.from

  abbrev Facts : EndMap → Type 0
  Facts e2 = EndFacts setting c blocks lists owns caller hash w0 left e2 (suc t) back

  -- it carries nothing
  no_list : lists t ≡ [] → Facts (standing e at.Afters)
  no_list none = record {
    setting_is = setting_is;
    owns_is = owns_is;
    since = since_now;
    root = roots;
    point = (
      t,
      record { table = here.table; from = here.from; made = here.made },
      refl,
      subst (λ (l : List ℕ). IsJoined w.memory e.first e.last l) (sym none_more) joined,
      all_now ∙ ap (λ (l : List ℕ). back ++ (given_of owns l ++ blocks.table t ∷ from_table setting c blocks lists owns (suc t))) none
          ∙ ap (λ (l : List ℕ). back ++ (l ++ blocks.table t ∷ from_table setting c blocks lists owns (suc t))) (nothing_given owns),
    );
  }
    where
      none_more : wait_before setting c blocks lists owns (suc t) ≡ wait_before setting c blocks lists owns t
      none_more =
          waits_now ∙ ap (λ (l : List ℕ). wait_before setting c blocks lists owns t ++ waits_of owns l) none
          ∙ ap (λ (l : List ℕ). wait_before setting c blocks lists owns t ++ l) (nothing_waits owns) ∙ append-nil (wait_before setting c blocks lists owns t)

  -- one that is reclaimed
  owned_list : owns ≡ true → (q : ℕ) (rest : List ℕ) → lists t ≡ q ∷ rest → (pair : ℕ) → pair ≡ q * 2048 → ListFrom w.memory pair (lists t) → Facts (standing e (at.Follows pair))
  owned_list owned q rest is pair link there = record {
    setting_is = setting_is;
    owns_is = owns_is;
    since = since_now;
    root = roots;
    point = (
      t,
      record { table = here.table; from = here.from; made = here.made },
      refl,
      inl (
        q,
        rest,
        link,
        record {
          owned = owned;
          theirs = λ x on. let k = subst (λ (l : List ℕ). 0 < times x l) (sym is) on in (over_left w caller (blocks.table t) (lists t) x (omega (arith, k)), (carried.theirs x k).2);
          there = subst (λ (l : List ℕ). ListFrom w.memory pair l) is there;
          all = all_now ∙ ap (λ (o : Bool). back ++ (given_of o (lists t) ++ blocks.table t ∷ from_table setting c blocks lists owns (suc t))) owned
              ∙ ap (λ (l : List ℕ). back ++ (l ++ blocks.table t ∷ from_table setting c blocks lists owns (suc t))) is;
          none_joined = none joined;
        },
      ),
    );
  }
    where
      none : IsJoined w.memory e.first e.last (wait_before setting c blocks lists owns t) → e.first ≡ 0
      none (inl k) = k.1
      none (inr k) = absurd (last_of k.0 k.1 (sym (before_owned setting c blocks lists owns t owned) ∙ k.2))

  waits_shared : owns ≡ false → wait_before setting c blocks lists owns (suc t) ≡ wait_before setting c blocks lists owns t ++ lists t
  waits_shared shared = waits_now ∙ ap (λ (o : Bool). wait_before setting c blocks lists owns t ++ waits_of o (lists t)) shared

  all_shared : owns ≡ false → back_of setting c blocks lists owns ≡ back ++ blocks.table t ∷ from_table setting c blocks lists owns (suc t)
  all_shared shared = all_now ∙ ap (λ (o : Bool). back ++ (given_of o (lists t) ++ blocks.table t ∷ from_table setting c blocks lists owns (suc t))) shared

  -- the first one that is joined
  first_list : owns ≡ false → (q : ℕ) (rest : List ℕ) → lists t ≡ q ∷ rest → (pair : ℕ) → pair ≡ q * 2048 → ListFrom w.memory pair (lists t) → e.first ≡ 0
      → Facts (record e { first = pair; last = pair; stands = at.Follows pair })
  first_list shared q rest is pair link there zero_first = record {
    setting_is = setting_is;
    owns_is = owns_is;
    since = since_now;
    root = roots;
    point = (
      t,
      record { table = here.table; from = here.from; made = here.made },
      refl,
      inr (record {
        shared = shared;
        before = [];
        here = q;
        rest = rest;
        pair_is = link;
        last_is = refl;
        there = subst (λ (l : List ℕ). ListFrom w.memory pair l) is there;
        waiting = waits_shared shared ∙ ap (λ (l : List ℕ). l ++ lists t) (none joined) ∙ is;
        all = all_shared shared;
      }),
    );
  }
    where
      none : IsJoined w.memory e.first e.last (wait_before setting c blocks lists owns t) → wait_before setting c blocks lists owns t ≡ []
      none (inl k) = k.0
      none (inr k) = absurd (list_some w.memory e.first k.1 k.0 k.4 zero_first)

  -- a further one
  later_list : owns ≡ false → (q : ℕ) (rest : List ℕ) → lists t ≡ q ∷ rest → (pair : ℕ) → ListFrom w.memory pair (lists t) → e.first ≢ 0 → Facts (standing e (at.Joins pair))
  later_list shared q rest is pair there some_first = by joined
    where
      by : IsJoined w.memory e.first e.last (wait_before setting c blocks lists owns t) → Facts (standing e (at.Joins pair))
      by (inl k) = absurd (some_first k.1)
      by (inr k) = record {
        setting_is = setting_is;
        owns_is = owns_is;
        since = since_now;
        root = roots;
        point = (
          t,
          record { table = here.table; from = here.from; made = here.made },
          refl,
          record {
            shared = shared;
            before = k.0;
            here = k.1;
            first = q;
            rest = rest;
            last_is = k.3;
            there = k.4;
            list_there = subst (λ (l : List ℕ). ListFrom w.memory pair l) is there;
            waiting = waits_shared shared ∙ ap (λ (l : List ℕ). l ++ lists t) k.2 ∙ ap (λ (l : List ℕ). (k.0 ++ k.1 ∷ []) ++ l) is;
            all = all_shared shared;
          },
        );
      }

  goes_told : (pair : ℕ) → pair ≡ list.0 → Facts (goes_on pair)
  goes_told pair is = elim (list_cases w.memory pair (lists t) (subst (λ (x : ℕ). ListFrom w.memory x (lists t)) (sym is) list.2)) as (λ _. Facts (goes_on pair)) [
    | inl k ↦ subst (λ (b : Bool). Facts (if b then standing e at.Afters else
        (if e.owns then standing e (at.Follows pair) else
        (if e.first == 0 then record e { first = pair; last = pair; stands = at.Follows pair } else standing e (at.Joins pair))))) (sym (ap (λ (x : ℕ). x == 0) k.1)) (no_list k.0)
    | inr k ↦ subst (λ (b : Bool). Facts (if b then standing e at.Afters else
        (if e.owns then standing e (at.Follows pair) else
        (if e.first == 0 then record e { first = pair; last = pair; stands = at.Follows pair } else standing e (at.Joins pair))))) (sym k.4) (by e.owns owns_is k.0 k.1 k.2 k.3)
  ]
    where
      there : ListFrom w.memory pair (lists t)
      there = subst (λ (x : ℕ). ListFrom w.memory x (lists t)) (sym is) list.2

      at_first : (b : Bool) → (e.first == 0) ≡ b → owns ≡ false → (q : ℕ) (rest : List ℕ) → lists t ≡ q ∷ rest → pair ≡ q * 2048
          → Facts (if b then record e { first = pair; last = pair; stands = at.Follows pair } else standing e (at.Joins pair))
      at_first true z shared q rest l link = first_list shared q rest l pair link there (eqb-true e.first 0 z)
      at_first false z shared q rest l link = later_list shared q rest l pair there (eqb-false e.first 0 z)

      by : (o : Bool) → o ≡ owns → (q : ℕ) (rest : List ℕ) → lists t ≡ q ∷ rest → pair ≡ q * 2048
          → Facts (if o then standing e (at.Follows pair) else (if e.first == 0 then record e { first = pair; last = pair; stands = at.Follows pair } else standing e (at.Joins pair)))
      by true o q rest l link = owned_list (sym o) q rest l pair link there
      by false o q rest l link = at_first (e.first == 0) refl (sym o) q rest l link

  pub went_carries : (m2 : Mem (Node K V)) (end : EndMap × Settled (Node K V)) → Steps Took value_at w.memory (carries e) m2 end
      → EndStepSpec setting c blocks lists owns caller hash w0 w t back m2 end
  went_carries m2 end s =
      let d = loaded w.memory (list_read e) (Word (e.table.link / 2048) DEFERRED) m2 end s in
      let b = blocks.table t in
      record {
        w2 = left;
        deed = LeavesTable b (lists t);
        past2 = suc t;
        runs = (
          cut w caller b,
          (subst (MayCut caller) (sym (yet.used (omega arith)).0) tt, refl),
          (left, ((caller, hand_here w.hand b (Cutting caller)), yet.still.orphan, (yet.used (omega arith)).1, carried.are, refl), refl),
        );
        memory = sym d.2;
        fresh = (fresh, counter_fresh);
        spares = leaves_spare setting caller w b (lists t);
        its = (refl, (yet.used (omega arith)).0, carried, here.from, here.made, refl, refl);
        told = subst (λ (x : EndMap × Settled (Node K V)). EndOutcome setting c blocks lists owns caller hash w0 w left (LeavesTable b (lists t)) (suc t) back x) (sym (ends_list d.0 end d.3))
            (refl, goes_told d.0 (same_some d.0 list.0 (sym d.1 ∙ word_there)));
      }
