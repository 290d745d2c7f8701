-- How many pairs a map has after a change, and that they are few.
use Rattle.std.specs.Prelude.{◌-◌}
use Rattle.std.proofs.Common.{◌≡◌, ◌≢◌, ℕ, suc, ◌+◌, ◌%◌, ◌^◌, ◌<◌, ◌≤◌, ◌⊎◌, Bool, true, false, cond, inl, inr, refl, ap, sym, subst, ◌∙◌, arith, Some}
use Rattle.std.proofs.lemmas.Bool.{cases_lt, eq-eqb, ne_eqb}
use Rattle.many_maps.specs.Given.SeizeWordsMem.{Mem}
use Rattle.many_maps.specs.Given.SeizeWorld.{World}
use Rattle.many_maps.specs.Given.TablesChunks.{is_incremental}
use Rattle.many_maps.specs.Given.TablesDeclared.node.Node.{Node}
use Rattle.many_maps.specs.Given.TablesDeclared.setting.Setting.{Setting}
use Rattle.many_maps.specs.Given.RawDeclared.machines.answer.KeyAnswer.{KeyAnswer}
use Rattle.many_maps.specs.Given.RawDeclared.machines.answer.KeyAnswer.TheVariants as answers
use Rattle.many_maps.specs.Given.RuleChart.{Chart, put}
use Rattle.many_maps.specs.Given.RuleRule.{Rule, total}
use Rattle.many_maps.specs.Given.RuleWords.{Blocks}
use Rattle.many_maps.specs.Given.RuleMaps.{spot_of}
use Rattle.many_maps.specs.Given.RuleInWorld.{IsMapIn}
use Rattle.many_maps.specs.Given.PointsFactsCalls.{Change, Unchanged, Stored, Replaced, Removed, AnswersOf, AnswersChange, Changes}
use Rattle.many_maps.proofs.Given.RuleWorld.Hands.{current_known}
use Rattle.many_maps.proofs.Given.RuleMoves.Totals.{total_same}
use Rattle.owner_facts.specs.Alone.Counting.{one_if, pairs_in, shards_sum, IsCounted}
use Rattle.owner_facts.specs.Alone.Counted.{HasAdded, counted_for}
use Rattle.owner_facts.specs.Alone.Alone.{HasChanged}
use Rattle.owner_facts.proofs.Alone.Shards.Fewer.{no_more, all_ones}
use Rattle.owner_facts.proofs.Alone.Shards.Sums.{total_one_else}

pub put_here : (f : ℕ → Bool) (k : ℕ) (v : Bool) → put f k v k ≡ v
put_here f k v = ap (λ (b : Bool). cond b v (f k)) (eq-eqb k k refl)

put_other : (f : ℕ → Bool) (k : ℕ) (v : Bool) (j : ℕ) → j ≢ k → put f k v j ≡ f j
put_other f k v j ne = ap (λ (b : Bool). cond b v (f j)) (ne_eqb j k ne)

-- one more
put_true : (f : ℕ → Bool) (n : ℕ) → total one_if (put f n true) (suc n) ≡ suc (total one_if f n)
put_true f n =
    let rest = total_same one_if f (put f n true) n (λ j l. ap one_if (put_other f n true j (λ e. omega (arith, e, l)))) in
    let here = ap one_if (put_here f n true) in omega (arith, rest, here)

-- one less
pub put_false : (f : ℕ → Bool) (o n : ℕ) → o < n → f o ≡ true → suc (total one_if (put f o false) n) ≡ total one_if f n
put_false f o n l is =
    let e = total_one_else one_if f (put f o false) o n l (λ j low ne. ap one_if (put_other f o false j ne)) in
    let was = ap one_if is in let now = ap one_if (put_here f o false) in omega (arith, e, was, now)

-- the pairs that a map has where these are in it, of so many
pub pairs_as : {K : Type 0} (c : Chart K) (f : ℕ → Bool) (n : ℕ) → c.current ≡ f → c.stored ≡ n → pairs_in c ≡ total one_if f n
pairs_as c f n current stored = ap (λ (g : ℕ → Bool). total one_if g c.stored) current ∙ ap (total one_if f) stored

module _ {K : Type 0} (same : K → K → Bool) (hash : K → ℕ) (incremental : Bool) (keys : K → Bool) (c0 c : Chart K) where
  pub pairs_stored_more : (n : ℕ) → Changes same hash incremental keys c0 c (Stored n) → c.stored ≡ c0.stored + 1 → pairs_in c ≡ suc (pairs_in c0)
  pairs_stored_more n (is, none, current) stored =
      pairs_as c (put c0.current c0.stored true) (suc c0.stored) (current ∙ ap (λ (i : ℕ). put c0.current i true) is) (omega (arith, stored)) ∙ put_true c0.current c0.stored

  pub pairs_replaced : (o n : ℕ) → o < c0.stored → Changes same hash incremental keys c0 c (Replaced o n) → c.stored ≡ c0.stored + 1 → pairs_in c ≡ pairs_in c0
  pairs_replaced o n l (is, pair, current) stored =
      pairs_as c (put (put c0.current o false) c0.stored true) (suc c0.stored) (current ∙ ap (λ (i : ℕ). put (put c0.current o false) i true) is) (omega (arith, stored))
      ∙ put_true (put c0.current o false) c0.stored ∙ put_false c0.current o c0.stored l pair.0

  pub pairs_removed : (o : ℕ) → o < c0.stored → Changes same hash incremental keys c0 c (Removed o) → c.stored ≡ c0.stored + 0 → suc (pairs_in c) ≡ pairs_in c0
  pairs_removed o l (pair, current) stored = ap suc (pairs_as c (put c0.current o false) c0.stored current (omega (arith, stored))) ∙ put_false c0.current o c0.stored l pair.0

module _ {K V : Type 0} (same : K → K → Bool) (hash : K → ℕ) (setting : Setting) (w : World (Node K V)) (c : Chart K) (blocks : Blocks) (map : IsMapIn same hash setting w c blocks) where
  -- each pair of the map has a block of its own
  few_below : (bound : ℕ) → ((n : ℕ) → c.current n ≡ true → blocks.pair n < bound) → pairs_in c ≤ bound
  few_below bound low =
      let count = no_more (λ n b. (blocks.pair_known n ≡ true) × (blocks.pair n ≡ b)) c.current c.stored (λ b. true) bound
      (λ n l is. (blocks.pair n, low n is, refl, ((current_known same hash setting w c blocks map.map.rule map.map.shows n is).1, refl)))
      (λ n o b l m a e. map.map.shows.pairs_apart n o l m a.0 e.0 (a.1 ∙ sym e.1)) in
      let all = all_ones (λ b. true) bound (λ b l. refl) in
      omega (arith, count, all)

  pub few_pairs_there : pairs_in c ≤ 2 ^ 53
  few_pairs_there = few_below (2 ^ 53) (λ n is. (let k = current_known same hash setting w c blocks map.map.rule map.map.shows n is in (map.map.shows.pair_numbers n k.0 k.1).1))

same_count : (s s0 p0 p : ℕ) → s % 2 ^ 64 ≡ (s0 + 0) % 2 ^ 64 → s0 % 2 ^ 64 ≡ p0 → p ≡ p0 → s % 2 ^ 64 ≡ p
same_count s s0 p0 p e h k = omega (arith, e, h, k)

one_more : (s s0 p0 p : ℕ) → s % 2 ^ 64 ≡ (s0 + 1) % 2 ^ 64 → s0 % 2 ^ 64 ≡ p0 → p ≡ suc p0 → p ≤ 2 ^ 53 → s % 2 ^ 64 ≡ p
one_more s s0 p0 p e h k l = omega (arith, e, h, k, l)

one_less : (s s0 p0 p : ℕ) → s % 2 ^ 64 ≡ (s0 + (2 ^ 64 - 1)) % 2 ^ 64 → s0 % 2 ^ 64 ≡ p0 → suc p ≡ p0 → s % 2 ^ 64 ≡ p
one_less s s0 p0 p e h k = omega (arith, e, h, k)

-- nothing was counted, and no pair has changed
pub counted_kept : {K T : Type 0} (setting : Setting) (m0 m : Mem T) (c0 c : Chart K) → c.current ≡ c0.current → c.stored ≡ c0.stored → HasAdded setting m0 0 m → IsCounted setting m0 c0 → IsCounted setting m c
counted_kept setting m0 m c0 c current stored added was =
    same_count (shards_sum m setting.counter (suc setting.mask)) (shards_sum m0 setting.counter (suc setting.mask)) (pairs_in c0) (pairs_in c) added was (pairs_as c c0.current c0.stored current stored)

module _ {K V Q : Type 0} (same : K → K → Bool) (hash : K → ℕ) (setting : Setting) (asks : Q → K → Bool) (keys : K → Bool) (c0 : Chart K) (rule0 : Rule same (spot_of hash) (is_incremental setting.mode) c0)
    (w : World (Node K V)) (c : Chart K) (blocks : Blocks) (map : IsMapIn same hash setting w c blocks) (m0 : Mem (Node K V)) where
  -- a pair of the map was stored
  stored_then : (o : ℕ) (k : K) → c0.key o ≡ Some k → o < c0.stored
  stored_then o k key = elim (cases_lt o c0.stored) as (λ _. o < c0.stored) [
    | inl l ↦ l
    | inr high ↦ absurd (let none = rule0.common.unstored o high in cc (none, key))
  ]

  abbrev Now : Type 0
  Now = IsCounted setting m0 c0 → IsCounted setting w.memory c

  abbrev sum : ℕ
  sum = shards_sum w.memory setting.counter (suc setting.mask)

  abbrev sum0 : ℕ
  sum0 = shards_sum m0 setting.counter (suc setting.mask)

  unchanged : HasChanged same hash setting keys c0 c Unchanged → HasAdded setting m0 0 w.memory → Now
  unchanged h added = counted_kept setting m0 w.memory c0 c h.changes (let e = h.stored in omega (arith, e)) added

  stored : (n : ℕ) → HasChanged same hash setting keys c0 c (Stored n) → HasAdded setting m0 1 w.memory → Now
  stored n h added was =
      one_more sum sum0 (pairs_in c0) (pairs_in c) added was (pairs_stored_more same hash (is_incremental setting.mode) keys c0 c n h.changes h.stored)
      (few_pairs_there same hash setting w c blocks map)

  replaced : (o n : ℕ) → HasChanged same hash setting keys c0 c (Replaced o n) → HasAdded setting m0 0 w.memory → Now
  replaced o n h added was =
      let pair = h.changes.1 in
      same_count sum sum0 (pairs_in c0) (pairs_in c) added was
      (pairs_replaced same hash (is_incremental setting.mode) keys c0 c o n (stored_then o pair.1 pair.2) h.changes h.stored)

  removed : (o : ℕ) → HasChanged same hash setting keys c0 c (Removed o) → HasAdded setting m0 (2 ^ 64 - 1) w.memory → Now
  removed o h added was =
      let pair = h.changes.0 in
      one_less sum sum0 (pairs_in c0) (pairs_in c) added was
      (pairs_removed same hash (is_incremental setting.mode) keys c0 c o (stored_then o pair.1 pair.2) h.changes h.stored)

  -- A call has counted what it answers, and has changed what it answers: the shards say how many pairs the map has, where they did.
  pub counted_then : (change : Change) (answer : KeyAnswer) → HasChanged same hash setting keys c0 c change
      → ((change ≡ Unchanged) × AnswersOf same hash asks w 0 setting c blocks keys change answer) ⊎ AnswersChange same hash asks w 0 setting c blocks keys change change answer
      → HasAdded setting m0 (counted_for answer) w.memory → Now
  counted_then change answer changed (inl told) added = looked answer (subst (HasChanged same hash setting keys c0 c) told.0 changed) told.1 added
    where
      looked : (a : KeyAnswer) → HasChanged same hash setting keys c0 c Unchanged → AnswersOf same hash asks w 0 setting c blocks keys change a → HasAdded setting m0 (counted_for a) w.memory → Now
      looked (answers.Found word) h t k = unchanged h k
      looked answers.Absent h t k = unchanged h k
      looked (answers.Stored word) h t k = absurd t
      looked (answers.Replaced old new) h t k = absurd t
      looked (answers.Removed word) h t k = absurd t
  counted_then change answer changed (inr told) added = by change answer changed told added
    where
      by : (x : Change) (a : KeyAnswer) → HasChanged same hash setting keys c0 c x → AnswersChange same hash asks w 0 setting c blocks keys change x a → HasAdded setting m0 (counted_for a) w.memory → Now
      by Unchanged answers.Absent h t k = absurd t
      by Unchanged (answers.Found word) h t k = absurd t
      by Unchanged (answers.Stored word) h t k = absurd t
      by Unchanged (answers.Replaced old new) h t k = absurd t
      by Unchanged (answers.Removed word) h t k = absurd t
      by (Stored n) (answers.Stored word) h t k = stored n h k
      by (Stored n) answers.Absent h t k = absurd t
      by (Stored n) (answers.Found word) h t k = absurd t
      by (Stored n) (answers.Replaced old new) h t k = absurd t
      by (Stored n) (answers.Removed word) h t k = absurd t
      by (Replaced o n) (answers.Replaced old new) h t k = replaced o n h k
      by (Replaced o n) answers.Absent h t k = absurd t
      by (Replaced o n) (answers.Found word) h t k = absurd t
      by (Replaced o n) (answers.Stored word) h t k = absurd t
      by (Replaced o n) (answers.Removed word) h t k = absurd t
      by (Removed o) (answers.Removed word) h t k = removed o h k
      by (Removed o) answers.Absent h t k = absurd t
      by (Removed o) (answers.Found word) h t k = absurd t
      by (Removed o) (answers.Stored word) h t k = absurd t
      by (Removed o) (answers.Replaced old new) h t k = absurd t

  -- One that has answered nothing has changed nothing, where it is refused.
  pub counted_unchanged : (change : Change) → HasChanged same hash setting keys c0 c change → change ≡ Unchanged → HasAdded setting m0 0 w.memory → Now
  counted_unchanged change changed is added = unchanged (subst (HasChanged same hash setting keys c0 c) is changed) added
