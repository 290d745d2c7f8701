-- A map that ends goes through the list that a table deferred: each pair is reclaimed, or the list is joined to those before.
use Rattle.std.specs.Prelude.{Option, Some, None, IsSome, ◌==◌, if◌then◌else◌}
use Rattle.std.proofs.Common.{◌≡◌, ℕ, suc, ◌*◌, ◌/◌, ◌<◌, Bool, true, false, List, [], ◌∷◌, ◌++◌, ◌⊎◌, inl, inr, refl, arith, ap, sym, subst, ◌∙◌}
use Rattle.std.proofs.lemmas.List.{append_assoc}
use Rattle.many_calls.specs.Given.SeizeWordsDeclared.at.At.TheVariants.{Entry}
use Rattle.many_calls.specs.Given.SeizeWordsOp.{Found, Stored}
use Rattle.many_calls.specs.Given.SeizeWordsMem.{Mem, Can, Took, value_at, word_at, with_word, with_block}
use Rattle.many_calls.specs.Given.SeizeWordsPlan.{Now, May, MaySee, Steps, Ends}
use Rattle.many_calls.proofs.Given.SeizeWordsOneOwner.Operations.{may_load, loaded, may_store, stored, may_take, taken}
use Rattle.many_calls.specs.Given.SeizeDeclared.states.TheConstants.{NEXT}
use Rattle.many_calls.specs.Given.SeizeDeclared.rows.settle.Settled.{Settled}
use Rattle.many_calls.specs.Given.SeizeDeclared.rows.settle.Settled.TheVariants as settled
use Rattle.many_calls.specs.Given.SeizeFurther.{ListFrom}
use Rattle.many_calls.specs.Given.SeizeWorld.{World, NoBlock, LeftTo, times}
use Rattle.many_calls.specs.Given.RawEndMap.{standing, joins, follows, follower_read, gives, given_back}
use Rattle.many_calls.specs.Given.TablesDeclared.node.Node.{Node}
use Rattle.many_calls.specs.Given.TablesDeclared.setting.Setting.{Setting}
use Rattle.many_calls.specs.Given.RawDeclared.machines.end_map.EndMap.{EndMap}
use Rattle.many_calls.specs.Given.RawDeclared.machines.end_map.Ending.TheVariants as at
use Rattle.many_calls.specs.Given.RuleChart.{Chart}
use Rattle.many_calls.specs.Given.RuleWords.{Blocks}
use Rattle.many_calls.specs.Given.PointsSteps.{AreLawful}
use Rattle.many_calls.proofs.Given.RuleWords.TablesSeen.{block_of_link}
use Rattle.many_maps.specs.FactsEnds.{Looks, JoinsPair, TakesLeft, RootAt, Since, BeganIn, IsAt, Gives, Joins, IsToJoin, EndFacts, EndOutcome, EndStepSpec, back_of, from_table, wait_before}
use Rattle.many_maps.proofs.Ends.CountedBlocks.{times-append, times_here, some_first, some_last, some_here, next_apart, one_more}
use Rattle.many_maps.proofs.Ends.Known.{back_once, went_still, went_away}
use Rattle.many_maps.proofs.Ends.Memory.{list_link, list_after, list_joined, list_kept, taken_value, taken_link}
use Rattle.many_maps.proofs.Ends.Worlds.{away}
use Rattle.many_maps.proofs.Ends.Frames.{joins_spare, left_spare}
use Rattle.many_maps.proofs.Ends.Since.{since_by, left_handed, back_and_one, apart_by_hand}
use Rattle.many_maps.proofs.Ends.OrdersOn.{before_owned}
use Rattle.many_maps.proofs.Ends.Carries.{list_cases}
use Rattle.many_calls.proofs.Given.General.{same_some, some_is as is_some_of}
use Rattle.many_calls.proofs.Together.At.{at_other as hand_other}

module _ {K V : Type 0} (same : K → K → Bool) (hash : K → ℕ) (are : AreLawful same hash) (setting : Setting) (c : Chart K) (blocks : Blocks) (lists : ℕ → List ℕ) (owns : Bool) (caller : ℕ)
    (w0 : World (Node K V)) (may : BeganIn setting c blocks lists owns same hash w0) (e : EndMap) (setting_is : e.setting ≡ setting) (owns_is : e.owns ≡ owns) (t : ℕ)
    (w : World (Node K V)) (back : List ℕ) (since : Since setting c blocks lists owns caller w0 w (suc t) back) (roots : RootAt hash setting c blocks w.memory at.Reads)
    (here : IsAt setting c blocks lists owns e t) where
  abbrev Went : Mem (Node K V) → EndMap × Settled (Node K V) → Type 0
  Went m2 end = EndStepSpec setting c blocks lists owns caller hash w0 w (suc t) back m2 end

  abbrev Told : EndMap × Settled (Node K V) → Type 0
  Told end = EndOutcome setting c blocks lists owns caller hash w0 w w Looks (suc t) back end

  -- a list is joined to those before
  module _ (pair : ℕ) (j : IsToJoin setting c blocks lists owns w.memory e t back pair) where
    b_at : e.last / 2048 ≡ j.here
    b_at = ap (λ (x : ℕ). x / 2048) j.last_is ∙ block_of_link j.here

    in_list : 0 < times j.here ((j.before ++ j.here ∷ []) ++ j.first ∷ j.rest)
    in_list = some_first j.here (j.before ++ j.here ∷ []) (j.first ∷ j.rest) (some_last j.here j.before (j.here ∷ []) (some_here j.here []))

    waiting : 0 < times j.here (wait_before setting c blocks lists owns (suc t))
    waiting = subst (λ (l : List ℕ). 0 < times j.here l) (sym j.waiting) in_list

    its : w.hand j.here ≡ LeftTo caller
    its = since.waits j.here waiting

    some : IsSome (word_at w.memory (Entry j.here NEXT))
    some = list_link w.memory e.first j.here (j.before ++ j.here ∷ []) j.there (some_last j.here j.before (j.here ∷ []) (some_here j.here []))

    once : (times j.here j.before ≡ 0) × (times j.here (j.first ∷ j.rest) ≡ 0)
    once =
        let a = since.once j.here in
        let b = ap (times j.here) j.waiting in
        let f = times-append j.here (j.before ++ j.here ∷ []) (j.first ∷ j.rest) in
        let g = times-append j.here j.before (j.here ∷ []) in
        let h = times_here j.here [] in
        (omega (arith, a, b, f, g, h), omega (arith, a, b, f, g, h))

    pub may_joins : May Can Took value_at w.memory (joins e pair)
    may_joins = may_store {R = EndMap × Settled (Node K V)} w.memory (λ out. Now (record e { last = pair; stands = at.Follows pair }, settled.Goes)) (Entry (e.last / 2048) NEXT) pair
        (subst (λ (b : ℕ). IsSome (word_at w.memory (Entry b NEXT))) (sym b_at) some) tt

    linked : World (Node K V)
    linked = record w { memory = with_word w.memory (Entry j.here NEXT) pair }

    joined_told : EndFacts setting c blocks lists owns caller hash w0 linked (record e { last = pair; stands = at.Follows pair }) (suc t) back
    unfolding linked
    joined_told = record {
      setting_is = setting_is;
      owns_is = owns_is;
      since =
          since_by setting c blocks lists owns caller w0 w (suc t) back since (record w { memory = with_word w.memory (Entry j.here NEXT) pair }) (JoinsPair j.here pair) (joins_spare setting caller w j.here pair some) back
          refl (λ x none. (none, refl)) (λ x none. refl) (λ x handed. (refl, apart_by_hand w.hand x j.here (λ own. left_handed (w.hand j.here) its (own ∙ handed)))) (λ x on. refl);
      root = roots;
      point = (
        t,
        record { table = here.table; from = here.from; made = here.made },
        refl,
        inr (record {
          shared = j.shared;
          before = j.before ++ j.here ∷ [];
          here = j.first;
          rest = j.rest;
          pair_is = j.list_there.2;
          last_is = refl;
          there = subst (λ (l : List ℕ). ListFrom (with_word w.memory (Entry j.here NEXT) pair) e.first l) (sym (append_assoc j.before (j.here ∷ []) (j.first ∷ j.rest)))
              (list_joined w.memory e.first j.here pair j.before (j.first ∷ j.rest) once.0 once.1 some j.there j.list_there);
          waiting = j.waiting;
          all = j.all;
        }),
      );
    }

    pub went_joins : (m2 : Mem (Node K V)) (end : EndMap × Settled (Node K V)) → Steps Took value_at w.memory (joins e pair) m2 end → Went m2 end
    unfolding linked
    went_joins m2 end s =
        let d = stored {R = EndMap × Settled (Node K V)} w.memory (λ out. Now (record e { last = pair; stands = at.Follows pair }, settled.Goes)) (Entry (e.last / 2048) NEXT) pair m2 end s in
        record {
          w2 = linked;
          deed = JoinsPair j.here pair;
          past2 = suc t;
          runs = (linked, (Stored, with_word w.memory (Entry j.here NEXT) pair, (caller, its), (tt, refl), refl), refl);
          memory = sym (d.0 ∙ ap (λ (b : ℕ). with_word w.memory (Entry b NEXT) pair) b_at);
          fresh = tt;
          spares = joins_spare setting caller w j.here pair some;
          its = (refl, its, waiting);
          told = subst (λ (x : EndMap × Settled (Node K V)). EndOutcome setting c blocks lists owns caller hash w0 w linked (JoinsPair j.here pair) (suc t) back x) (sym d.1) (refl, joined_told);
        }

  -- the next one is read
  abbrev goes_on : ℕ → ℕ → EndMap
  goes_on pair next = if e.owns then standing e (at.Gives pair next) else (if next == 0 then standing e at.Afters else record e { last = next; stands = at.Follows next })

  see_follower : (pair next : ℕ) → MaySee (value_at w.memory) (follower_read {T = Node K V} e pair (Found next))
  see_follower pair next = by e.owns (next == 0)
    where
      by : (x y : Bool) → MaySee {R = EndMap × Settled (Node K V)} (value_at w.memory)
          (if x then Now (standing e (at.Gives pair next), settled.Goes) else (if y then Now (standing e at.Afters, settled.Goes) else Now (record e { last = next; stands = at.Follows next }, settled.Goes)))
      by true y = tt
      by false true = tt
      by false false = tt

  ends_follower : (pair next : ℕ) (end : EndMap × Settled (Node K V)) → Ends (value_at w.memory) (follower_read {T = Node K V} e pair (Found next)) end → end ≡ (goes_on pair next, settled.Goes)
  ends_follower pair next end = by e.owns (next == 0)
    where
      by : (x y : Bool) → Ends {R = EndMap × Settled (Node K V)} (value_at w.memory)
          (if x then Now (standing e (at.Gives pair next), settled.Goes) else (if y then Now (standing e at.Afters, settled.Goes) else Now (record e { last = next; stands = at.Follows next }, settled.Goes))) end
          → end ≡ ((if x then standing e (at.Gives pair next) else (if y then standing e at.Afters else record e { last = next; stands = at.Follows next })), settled.Goes)
      by true y k = k
      by false true k = k
      by false false k = k

  abbrev Facts : EndMap → Type 0
  Facts e2 = EndFacts setting c blocks lists owns caller hash w0 w e2 (suc t) back

  module _ (pair q : ℕ) (link : pair ≡ q * 2048) (next : ℕ) (next_there : word_at w.memory (Entry q NEXT) ≡ Some next) where
    follower : word_at w.memory (Entry (pair / 2048) NEXT) ≡ Some next
    follower = ap (λ (x : ℕ). word_at w.memory (Entry (x / 2048) NEXT)) link ∙ ap (λ (b : ℕ). word_at w.memory (Entry b NEXT)) (block_of_link q) ∙ next_there

    pub may_follows : May Can Took value_at w.memory (follows e pair)
    may_follows = may_load w.memory (follower_read e pair) (Entry (pair / 2048) NEXT) (is_some_of (word_at w.memory (Entry (pair / 2048) NEXT)) next follower) (λ x is. see_follower pair x)

    went_on : Facts (goes_on pair next) → (m2 : Mem (Node K V)) (end : EndMap × Settled (Node K V)) → Steps Took value_at w.memory (follows e pair) m2 end → Went m2 end
    went_on facts m2 end s =
        let d = loaded w.memory (follower_read e pair) (Entry (pair / 2048) NEXT) m2 end s in
        went_still same hash are setting c blocks lists owns caller w0 may w (suc t) back m2 end d.2
        (subst (λ (x : EndMap × Settled (Node K V)). Told x) (sym (ends_follower pair d.0 end d.3))
        (refl, subst (λ (x : ℕ). Facts (goes_on pair x)) (same_some next d.0 (sym follower ∙ d.1)) facts))

  module _ (pair q : ℕ) (rest : List ℕ) (link : pair ≡ q * 2048) (g : Gives setting c blocks lists owns caller w e t back pair (q ∷ rest)) where
    gives_facts : Facts (goes_on pair g.there.0)
    gives_facts = subst (λ (b : Bool). Facts (if b then standing e (at.Gives pair g.there.0) else (if g.there.0 == 0 then standing e at.Afters else record e { last = g.there.0; stands = at.Follows g.there.0 })))
        (sym (owns_is ∙ g.owned)) record {
          setting_is = setting_is;
          owns_is = owns_is;
          since = since;
          root = roots;
          point = (
            t,
            record { table = here.table; from = here.from; made = here.made },
            refl,
            q,
            rest,
            link,
            record { owned = g.owned; theirs = g.theirs; there = g.there; all = g.all; none_joined = g.none_joined },
            g.there.4,
          );
        }

    pub may_follows_own : May Can Took value_at w.memory (follows e pair)
    may_follows_own = may_follows pair q link g.there.0 g.there.3

    pub went_follows_own : (m2 : Mem (Node K V)) (end : EndMap × Settled (Node K V)) → Steps Took value_at w.memory (follows e pair) m2 end → Went m2 end
    went_follows_own = went_on pair q link g.there.0 g.there.3 gives_facts

  module _ (pair : ℕ) (j : Joins setting c blocks lists owns w.memory e t back pair) where
    after : (next : ℕ) × (word_at w.memory (Entry j.here NEXT) ≡ Some next) × ListFrom w.memory next j.rest
    after = list_after w.memory e.first j.here j.before j.rest j.there

    joins_facts : (next : ℕ) → ListFrom w.memory next j.rest → Facts (goes_on pair next)
    joins_facts next k = subst (λ (b : Bool). Facts (if b then standing e (at.Gives pair next) else (if next == 0 then standing e at.Afters else record e { last = next; stands = at.Follows next })))
        (sym (owns_is ∙ j.shared)) (by (list_cases w.memory next j.rest k))
      where
        by : ((j.rest ≡ []) × (next ≡ 0)) ⊎ ((q : ℕ) × (l : List ℕ) × (j.rest ≡ q ∷ l) × (next ≡ q * 2048) × ((next == 0) ≡ false))
            → Facts (if next == 0 then standing e at.Afters else record e { last = next; stands = at.Follows next })
        by (inl none) = subst (λ (b : Bool). Facts (if b then standing e at.Afters else record e { last = next; stands = at.Follows next })) (sym (ap (λ (x : ℕ). x == 0) none.1)) record {
          setting_is = setting_is;
          owns_is = owns_is;
          since = since;
          root = roots;
          point = (
            t,
            record { table = here.table; from = here.from; made = here.made },
            refl,
            inr (
              j.before,
              j.here,
              subst (λ (l : List ℕ). wait_before setting c blocks lists owns (suc t) ≡ j.before ++ j.here ∷ l) none.0 j.waiting,
              j.last_is ∙ j.pair_is,
              subst (λ (l : List ℕ). ListFrom w.memory e.first (j.before ++ j.here ∷ l)) none.0 j.there,
            ),
            j.all,
          );
        }
        by (inr (q, l, is, link, some)) = subst (λ (b : Bool). Facts (if b then standing e at.Afters else record e { last = next; stands = at.Follows next })) (sym some) record {
          setting_is = setting_is;
          owns_is = owns_is;
          since = since;
          root = roots;
          point = (
            t,
            record { table = here.table; from = here.from; made = here.made },
            refl,
            inr (record {
              shared = j.shared;
              before = j.before ++ j.here ∷ [];
              here = q;
              rest = l;
              pair_is = link;
              last_is = refl;
              there = subst (λ (x : List ℕ). ListFrom w.memory e.first x) (as_one q l is) j.there;
              waiting = subst (λ (x : List ℕ). wait_before setting c blocks lists owns (suc t) ≡ x) (as_one q l is) j.waiting;
              all = j.all;
            }),
          );
        }
          where
            as_one : (q : ℕ) (l : List ℕ) → j.rest ≡ q ∷ l → j.before ++ j.here ∷ j.rest ≡ (j.before ++ j.here ∷ []) ++ q ∷ l
            as_one q l is = ap (λ (x : List ℕ). j.before ++ j.here ∷ x) is ∙ sym (append_assoc j.before (j.here ∷ []) (q ∷ l))

    pub may_follows_joined : May Can Took value_at w.memory (follows e pair)
    may_follows_joined = may_follows pair j.here j.pair_is after.0 after.1

    pub went_follows_joined : (m2 : Mem (Node K V)) (end : EndMap × Settled (Node K V)) → Steps Took value_at w.memory (follows e pair) m2 end → Went m2 end
    went_follows_joined = went_on pair j.here j.pair_is after.0 after.1 (joins_facts after.0 after.2)

  -- a pair that was deferred is reclaimed
  module _ (pair next q : ℕ) (rest : List ℕ) (link : pair ≡ q * 2048) (g : Gives setting c blocks lists owns caller w e t back pair (q ∷ rest)) (next_there : ListFrom w.memory next rest) where
    q_at : pair / 2048 ≡ q
    q_at = ap (λ (x : ℕ). x / 2048) link ∙ block_of_link q

    q_apart : (times q back ≡ 0) × (times q (rest ++ blocks.table t ∷ from_table setting c blocks lists owns (suc t)) ≡ 0)
    q_apart = next_apart q (back_of setting c blocks lists owns) back (rest ++ blocks.table t ∷ from_table setting c blocks lists owns (suc t)) (back_once same hash are setting c blocks lists owns caller w0 may) g.all

    its_q : (w.hand q ≡ LeftTo caller) × IsSome (value_at w.memory q)
    its_q = g.theirs q (some_here q rest)

    q_there : IsSome (value_at w.memory q)
    q_there = its_q.1

    pub may_gives : May Can Took value_at w.memory (gives e pair next)
    may_gives = may_take w.memory (given_back e (standing e (if next == 0 then at.Afters else at.Follows next))) (pair / 2048) (subst (λ (b : ℕ). IsSome (value_at w.memory b)) (sym q_at) q_there) (λ value is. tt)

    v : World (Node K V)
    v = away w caller q

    gone_on : EndFacts setting c blocks lists owns caller hash w0 v (standing e (if next == 0 then at.Afters else at.Follows next)) (suc t) (back ++ q ∷ [])
    unfolding v
    gone_on = by (list_cases w.memory next rest next_there)
      where
        since_v : Since setting c blocks lists owns caller w0 (away w caller q) (suc t) (back ++ q ∷ [])
        since_v =
            since_by setting c blocks lists owns caller w0 w (suc t) back since (away w caller q) (TakesLeft q) (left_spare setting caller w q q_there) (back ++ q ∷ []) refl (λ x none. back_and_one x q back none) (λ x none. refl)
            (λ x handed. (apart_by_hand w.hand x q (λ own. left_handed (w.hand q) its_q.0 (own ∙ handed)), refl))
            (λ x on. absurd (let a = ap (times x) (before_owned setting c blocks lists owns (suc t) g.owned) in omega (arith, a, on)))

        all_v : back_of setting c blocks lists owns ≡ (back ++ q ∷ []) ++ (rest ++ blocks.table t ∷ from_table setting c blocks lists owns (suc t))
        all_v = one_more (back_of setting c blocks lists owns) back (rest ++ blocks.table t ∷ from_table setting c blocks lists owns (suc t)) q g.all

        by : ((rest ≡ []) × (next ≡ 0)) ⊎ ((r : ℕ) × (l : List ℕ) × (rest ≡ r ∷ l) × (next ≡ r * 2048) × ((next == 0) ≡ false))
            → EndFacts setting c blocks lists owns caller hash w0 (away w caller q) (standing e (if next == 0 then at.Afters else at.Follows next)) (suc t) (back ++ q ∷ [])
        by (inl none) =
            subst (λ (b : Bool). EndFacts setting c blocks lists owns caller hash w0 (away w caller q) (standing e (if b then at.Afters else at.Follows next)) (suc t) (back ++ q ∷ []))
            (sym (ap (λ (x : ℕ). x == 0) none.1)) record {
              setting_is = setting_is;
              owns_is = owns_is;
              since = since_v;
              root = roots;
              point = (
                t,
                record { table = here.table; from = here.from; made = here.made },
                refl,
                inl (before_owned setting c blocks lists owns (suc t) g.owned, g.none_joined),
                subst (λ (l : List ℕ). back_of setting c blocks lists owns ≡ (back ++ q ∷ []) ++ (l ++ blocks.table t ∷ from_table setting c blocks lists owns (suc t))) none.0 all_v,
              );
            }
        by (inr (r, l, is, next_link, some)) =
            subst (λ (b : Bool). EndFacts setting c blocks lists owns caller hash w0 (away w caller q) (standing e (if b then at.Afters else at.Follows next)) (suc t) (back ++ q ∷ [])) (sym some) record {
              setting_is = setting_is;
              owns_is = owns_is;
              since = since_v;
              root = roots;
              point = (
                t,
                record { table = here.table; from = here.from; made = here.made },
                refl,
                inl (
                  r,
                  l,
                  next_link,
                  record {
                    owned = g.owned;
                    theirs = λ x on.
                        let k = subst (λ (z : List ℕ). 0 < times x z) (sym is) on in
                        let h = g.theirs x (omega (arith, k)) in (
                          hand_other w.hand q NoBlock x (λ same_q. other x k same_q) ∙ h.0,
                          subst (λ (o : Option (Node K V)). IsSome o) (sym (taken_value w.memory q q_there x (λ same_q. other x k same_q))) h.1,
                        );
                    there = subst (λ (x : List ℕ). ListFrom (with_block w.memory q None) next x) is
                        (list_kept w.memory (with_block w.memory q None) next rest (λ x on. taken_link w.memory q q_there x (λ same_q. other x on same_q)) next_there);
                    all = subst (λ (x : List ℕ). back_of setting c blocks lists owns ≡ (back ++ q ∷ []) ++ (x ++ blocks.table t ∷ from_table setting c blocks lists owns (suc t))) is all_v;
                    none_joined = g.none_joined;
                  },
                ),
              );
            }
          where
            other : (x : ℕ) → 0 < times x rest → x ≡ q → ⊥
            other x on same_q =
                let a = subst (λ (y : ℕ). 0 < times y rest) same_q on in
                let b = times-append q rest (blocks.table t ∷ from_table setting c blocks lists owns (suc t)) in
                let d = q_apart.1 in omega (arith, a, b, d)

    pub went_gives : (m2 : Mem (Node K V)) (end : EndMap × Settled (Node K V)) → Steps Took value_at w.memory (gives e pair next) m2 end → Went m2 end
    unfolding v
    went_gives m2 end s =
        let d = taken w.memory (given_back e (standing e (if next == 0 then at.Afters else at.Follows next))) (pair / 2048) m2 end s in
        let value_is : value_at w.memory q ≡ Some d.0 = ap (value_at w.memory) (sym q_at) ∙ d.1 in
        went_away same hash are setting c blocks lists owns caller w0 may w (suc t) back m2 end q d.0 q_apart.0 (inl g.owned)
        its_q.0 (inr (λ s. since.free g.owned s q)) value_is (d.2 ∙ ap (λ (x : ℕ). with_block w.memory x None) q_at)
        (subst (λ (x : EndMap × Settled (Node K V)). EndOutcome setting c blocks lists owns caller hash w0 w (away w caller q) (TakesLeft q) (suc t) back x) (sym d.3)
        (q, refl, value_is, gone_on))
