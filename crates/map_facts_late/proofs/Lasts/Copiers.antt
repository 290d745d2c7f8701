-- In blocking mode: what a copier knows lasts over steps of others. Where the root leaves the table that it copies, it knows what is to be known then.
use Rattle.std.proofs.Common.{◌≡◌, ℕ, suc, ◌*◌, ◌^◌, ◌<◌, ◌≤◌, Bool, true, false, ◌⊎◌, inl, inr, refl, arith, ap, sym, subst, ◌∙◌}
use Rattle.std.proofs.lemmas.Bool.{cases_lt, eq-eqb}
use Rattle.map_facts.specs.Given.SeizeWorld.{World, Cutting}
use Rattle.map_facts.specs.Given.SeizeDeclared.rows.settle.Settle.{Settle}
use Rattle.map_facts.specs.Given.SeizeSettle.{retiring}
use Rattle.map_facts.specs.Given.TablesChunks.{is_incremental}
use Rattle.map_facts.specs.Given.TablesTrials.{trial_at}
use Rattle.map_facts.specs.Given.TablesDeclared.node.Node.{Node}
use Rattle.map_facts.specs.Given.TablesDeclared.probe.Probe.{Probe}
use Rattle.map_facts.specs.Given.TablesDeclared.setting.Setting.{Setting}
use Rattle.map_facts.specs.Given.TablesDeclared.status.TheConstants.Status.{ABORTED}
use Rattle.map_facts.specs.Given.TablesDeclared.table.Table.{Table}
use Rattle.map_facts.specs.Given.ResizeDeclared.copier.Copier.{Copier}
use Rattle.map_facts.specs.Given.ResizeDeclared.copier.Copying.{Copying as Point}
use Rattle.map_facts.specs.Given.ResizeDeclared.copier.Copying.TheVariants as at
use Rattle.map_facts.specs.Given.RuleChart.{Still, Copying, Holds, Claimed, Chart, is_marked, is_taken}
use Rattle.map_facts.specs.Given.RuleRule.{Rule, total}
use Rattle.map_facts.specs.Given.RuleMoves.{is_of_caller, is_done_by, Taken}
use Rattle.map_facts.specs.Given.RuleWords.{Blocks, place_word}
use Rattle.map_facts.specs.Given.RuleMaps.{spot_of, IsTable}
use Rattle.map_facts.specs.Given.RuleMoments.{Moments}
use Rattle.map_facts.specs.Given.RuleInWorld.{IsHeldBy, IsMapIn}
use Rattle.map_facts.specs.FactsDisposes.{IsToRetire}
use Rattle.map_facts.specs.FactsCopiesBlocking.{HasNoShares, CopiesInto, HasDoneIn, ClaimsRange, ClaimsNoneIn, RestsIn, WorksIn, TriesIn, HasUnlinkedFrom, CopyingFactsBlocking, CopierFactsBlocking}
use Rattle.map_facts_late.proofs.Known.Tables.{key_on, len_on, table_known_on, table_block_on, table_on, trial_on, word_on}
use Rattle.map_facts.specs.Others.{OthersStep}
use Rattle.map_facts_late.specs.Left.{Left}
use Rattle.map_facts_late.specs.LateCopies.{CopiesSuperseded, CopiesAborted, HasRange, WorksOnSuperseded, TriesAtSuperseded, HasUnlinkedSuperseded, SupersededCopying, SupersededCopierFacts}
use Rattle.map_facts_late.proofs.Lasts.Shares.{some_done, none_on, done_on}
use Rattle.map_facts_late.proofs.Lasts.Tables.{left_on, left_now, next_table_on}

-- no table that was there comes near to the end of a word by its claims, if it did not before
abbrev pub ClaimsStayFew : {K : Type 0} → Chart K → Chart K → Type 0
ClaimsStayFew c c2 = (t : ℕ) → t < c.past → c.claim t < 2 ^ 63 → c2.claim t < 2 ^ 63

-- it has no part in a copying then
pub late_copier_idle : {K V : Type 0} (same : K → K → Bool) (hash : K → ℕ) (w : World (Node K V)) (caller : ℕ) (setting : Setting) (c : Chart K) (blocks : Blocks) (began : ℕ) (p : Copier) (stands : Point)
    → SupersededCopying same hash w caller setting c blocks began p stands → HasNoShares same hash w caller setting c blocks
late_copier_idle same hash w caller setting c blocks began p at.Asks h = h.2.idle
late_copier_idle same hash w caller setting c blocks began p at.Sees h = h.2.idle
late_copier_idle same hash w caller setting c blocks began p at.Claims h = h.2.idle
late_copier_idle same hash w caller setting c blocks began p at.Marks h = h.2.0.idle
late_copier_idle same hash w caller setting c blocks began p (at.Probes word code table probe) h = h.5.copies.0.idle
late_copier_idle same hash w caller setting c blocks began p (at.Puts word code table probe) h = h.5.copies.0.idle
late_copier_idle same hash w caller setting c blocks began p at.Counts h = h.2.0.idle
late_copier_idle same hash w caller setting c blocks began p at.Aborts h = h.2.0.idle
late_copier_idle same hash w caller setting c blocks began p at.Replaces h = h.2.0.idle
late_copier_idle same hash w caller setting c blocks began p (at.Remakes making) h = h.2.0.idle
late_copier_idle same hash w caller setting c blocks began p at.Promotes h = h.2.idle
late_copier_idle same hash w caller setting c blocks began p at.Announces h = h.3.3
late_copier_idle same hash w caller setting c blocks began p (at.Succeeds table) h = h.2.3
late_copier_idle same hash w caller setting c blocks began p (at.Retires settle rest) h = h.2.3
late_copier_idle same hash w caller setting c blocks began p at.Over h = h.3
late_copier_idle same hash w caller setting c blocks began p _ h = absurd h

module _ {K V : Type 0} (same : K → K → Bool) (hash : K → ℕ) (setting : Setting) (blocking : is_incremental setting.mode ≡ false) (caller : ℕ) (w w2 : World (Node K V)) (c c2 : Chart K)
    (blocks blocks2 : Blocks) (map : IsMapIn same hash setting w c blocks) (moments : Moments (is_incremental setting.mode) c) (others : OthersStep same hash setting caller w c blocks w2 c2 blocks2)
    (began : ℕ) (since : began ≤ c.now) where
  rule : Rule same (spot_of hash) false c
  rule = subst (λ (x : Bool). Rule same (spot_of hash) x c) blocking map.map.rule

  table_here : (table : Table) (t : ℕ) → IsTable c blocks table t → IsTable c2 blocks2 table t
  table_here = table_on same hash setting caller w w2 c c2 blocks blocks2 others

  len_here : (t : ℕ) → t < c.past → c2.len t ≡ c.len t
  len_here = len_on same hash setting caller w w2 c c2 blocks blocks2 others

  not_mine : (t j : ℕ) → is_of_caller caller (c.share t j) ≡ false → is_of_caller caller (c2.share t j) ≡ false
  not_mine = none_on same (spot_of hash) (is_incremental setting.mode) caller c c2 others.leaves

  forward : c.first ≤ c2.first
  forward = others.leaves.lasts.first

  -- it has no part in a copying still
  pub idle_on : HasNoShares same hash w caller setting c blocks → HasNoShares same hash w2 caller setting c2 blocks2
  idle_on idle u j l = not_mine u j (idle u j (let f = forward in omega (arith, l, f)))

  marked_stays : (t i n : ℕ) → c.place t i ≡ Holds n Copying false → c2.place t i ≡ Holds n Copying false
  marked_stays t i n e = others.leaves.lasts.frozen t i blocking (ap is_marked e) ∙ e

  -- pair n, which a table names
  module _ (t i n : ℕ) (made : t < c.past) (known : blocks.table_known t ≡ true) (e : c.place t i ≡ Holds n Copying false) where
    was : n < c.stored
    was = (rule.common.keyed t i n Copying false e).0

    seen : blocks.pair_known n ≡ true
    seen = map.map.shows.named t i n Copying false made known e

    key_here : c2.key n ≡ c.key n
    key_here = key_on same hash setting caller w w2 c c2 blocks blocks2 others n was

    word_here : place_word hash c2 blocks2 (Holds n Still false) ≡ place_word hash c blocks (Holds n Still false)
    word_here = word_on same hash setting caller w w2 c c2 blocks blocks2 others n was seen Still false

  -- tables that it has unlinked
  cut_here : (t : ℕ) → t < c.past → blocks.table_known t ≡ true → w.hand (blocks.table t) ≡ Cutting caller → w2.hand (blocks2.table t) ≡ Cutting caller
  cut_here t made known cut =
      ap w2.hand (table_block_on same hash setting caller w w2 c c2 blocks blocks2 others t made known)
      ∙ (others.own.blocks (blocks.table t) _ (map.map.shows.tables t made known).value (λ e. absurd (cc e)) (subst (IsHeldBy caller) (sym cut) refl)).0 ∙ cut

  retires_here : (t : ℕ) → t < c.past → blocks.table_known t ≡ true → (settle : Settle) → IsToRetire w caller setting settle (blocks.table t) → IsToRetire w2 caller setting settle (blocks2.table t)
  retires_here t made known settle h =
      (h.0 ∙ ap (λ (b : ℕ). retiring setting.slot setting.batch_size (b * 2048)) (sym (table_block_on same hash setting caller w w2 c c2 blocks blocks2 others t made known)), cut_here t made known h.1)

  link_here : (t : ℕ) → t < c.past → blocks.table_known t ≡ true → (x : ℕ) → x ≡ blocks.table t * 2048 → x ≡ blocks2.table t * 2048
  link_here t made known x e = e ∙ ap (λ (b : ℕ). b * 2048) (sym (table_block_on same hash setting caller w w2 c c2 blocks blocks2 others t made known))

  -- The root is where it was.
  module _ (root : c2.first ≡ c.first) where
    root_table : (table : Table) → IsTable c blocks table c.first → IsTable c2 blocks2 table c2.first
    root_table table h = subst (IsTable c2 blocks2 table) (sym root) (table_here table c.first h)

    copies_same : (p : Copier) (t : ℕ) → CopiesInto same hash w caller setting c blocks p t → CopiesInto same hash w2 caller setting c2 blocks2 p t
    copies_same p t h = (root_table p.source h.0, (let l = h.1 in omega (arith, l, root)), table_here p.target t h.2, h.3)

    len_same : (p : Copier) (t : ℕ) → CopiesInto same hash w caller setting c blocks p t → c2.len c2.first ≡ c.len c.first
    len_same p t h = ap c2.len root ∙ len_here c.first h.0.made

    rests_same : (p : Copier) (t : ℕ) → RestsIn same hash w caller setting c blocks p t → RestsIn same hash w2 caller setting c2 blocks2 p t
    rests_same p t h = (copies_same p t h.0, h.1, idle_on h.2)

    done_same : (p : Copier) (t : ℕ) → CopiesInto same hash w caller setting c blocks p t → (done : ℕ) → HasDoneIn same hash w caller setting c blocks t done → HasDoneIn same hash w2 caller setting c2 blocks2 t done
    done_same p t copies done h = (
      subst (λ (len : ℕ). done ≡ total (is_done_by caller) (c2.share t) len) (sym (len_same p t copies)) (done_on same (spot_of hash) (is_incremental setting.mode) caller c c2 others.leaves t (c.len c.first) done h.0),
      λ u j l ne. not_mine u j (h.1 u j (omega (arith, l, root)) ne),
    )

    range_same : (t place end : ℕ) → ClaimsRange same hash w caller setting c blocks t place end → ClaimsRange same hash w2 caller setting c2 blocks2 t place end
    range_same t place end h = (
      (λ j low high. let e = h.0 j low high in others.leaves.mine t j (ap (is_of_caller caller) e ∙ eq-eqb caller caller refl) ∙ e),
      λ j mine. h.1 j (others.leaves.mine_before t j (ap (is_of_caller caller) mine ∙ eq-eqb caller caller refl) ∙ mine),
    )

    none_same : (t : ℕ) → ClaimsNoneIn same hash w caller setting c blocks t → ClaimsNoneIn same hash w2 caller setting c2 blocks2 t
    none_same t h j mine = h j (others.leaves.mine_before t j (ap (is_of_caller caller) mine ∙ eq-eqb caller caller refl) ∙ mine)

    within_same : (p : Copier) (t : ℕ) → CopiesInto same hash w caller setting c blocks p t → p.end ≤ c.len c.first → p.end ≤ c2.len c2.first
    within_same p t copies l = let e = len_same p t copies in omega (arith, l, e)

    works_same : (p : Copier) (t n : ℕ) (k : K) (word : ℕ) → WorksIn same hash w caller setting c blocks p t n k word → WorksIn same hash w2 caller setting c2 blocks2 p t n k word
    works_same p t n k word h =
        let source = h.copies.0 in
        record {
          copies = copies_same p t h.copies;
          has_done = done_same p t h.copies p.done h.has_done;
          claims = range_same t p.place p.end h.claims;
          inside = (h.inside.0, within_same p t h.copies h.inside.1);
          place = ap (λ (u : ℕ). c2.place u p.place) root ∙ marked_stays c.first p.place n h.place;
          key = key_here c.first p.place n source.made source.known h.place ∙ h.key;
          word_is = h.word_is ∙ sym (word_here c.first p.place n source.made source.known h.place);
        }

    -- tries that are taken are taken still
    taken_same : (t : ℕ) (k : K) (g : ℕ) → t < c.past → Taken same (spot_of hash) false c t k g → Taken same (spot_of hash) false c2 t k g
    taken_same t k g made h =
        subst (λ (b : Bool). is_taken b (c2.place t (spot_of hash (c2.len t) k g)) ≡ true) blocking
        (subst (λ (n : ℕ). is_taken (is_incremental setting.mode) (c2.place t (spot_of hash n k g)) ≡ true) (sym (len_here t made))
        (others.leaves.lasts.taken t (spot_of hash (c.len t) k g) (subst (λ (b : Bool). is_taken b (c.place t (spot_of hash (c.len t) k g)) ≡ true) (sym blocking) h)))

    tries_same : (p : Copier) (word code : ℕ) (table : Table) (probe : Probe) → TriesIn same hash w caller setting c blocks p word code table probe → TriesIn same hash w2 caller setting c2 blocks2 p word code table probe
    tries_same p word code table probe (t, n, k, j, works, code_is, table_is, trial, taken) = (
      t,
      n,
      k,
      j,
      works_same p t n k word works,
      code_is,
      table_is,
      trial_on same hash setting caller w w2 c c2 blocks blocks2 others (trial_at table probe) code t j trial,
      λ g l. taken_same t k g works.copies.2.made (taken g l),
    )

    unlinked_same : (p : Copier) (s : ℕ) → HasUnlinkedFrom same hash w caller setting c blocks p s → HasUnlinkedFrom same hash w2 caller setting c2 blocks2 p s
    unlinked_same p s (l, target, idle, cut) = (
      omega (arith, l, root),
      root_table p.target target,
      idle_on idle,
      λ u low high.
          let before : u < c.first = omega (arith, high, root) in
          let it = cut u low before in
          let made : u < c.past = (let m = target.made in omega (arith, before, m)) in
          (table_known_on same hash setting caller w w2 c c2 blocks blocks2 others u made it.0, cut_here u made it.0 it.1),
    )

    point_same : ClaimsStayFew c c2 → (p : Copier) (stands : Point) → CopyingFactsBlocking same hash w caller setting c blocks p stands → CopyingFactsBlocking same hash w2 caller setting c2 blocks2 p stands
    point_same few p at.Asks (t, h) = (t, rests_same p t h)
    point_same few p at.Sees (t, h) = (t, rests_same p t h)
    point_same few p at.Claims (t, h, l) = (t, rests_same p t h, few t h.0.2.made l)
    point_same few p at.Marks (t, copies, done, range, place, end) =
        (t, copies_same p t copies, done_same p t copies p.done done, range_same t p.place p.end range, place, within_same p t copies end)
    point_same few p (at.Probes word code table probe) h = tries_same p word code table probe h
    point_same few p (at.Puts word code table probe) h = tries_same p word code table probe h
    point_same few p at.Counts (t, copies, some, done, none) = (t, copies_same p t copies, some, done_same p t copies p.done done, none_same t none)
    point_same few p at.Aborts (t, (rests, j, l, lost)) = (t, (rests_same p t rests, j, (let e = len_same p t rests.0 in omega (arith, l, e)), others.leaves.lost t j lost))
    point_same few p at.Replaces (t, rests, aborted) = (t, rests_same p t rests, others.leaves.aborted t aborted)
    point_same few p (at.Remakes making) (t, rests, aborted, table) = (
      t,
      rests_same p t rests,
      others.leaves.aborted t aborted,
      next_table_on same hash setting blocking caller w w2 c c2 blocks blocks2 others t (suc t) rests.0.2.made rests.0.2.known making table,
    )
    point_same few p at.Promotes (t, rests, all) = (t, rests_same p t rests, λ j l. others.leaves.counted t j (all j (let e = len_same p t rests.0 in omega (arith, l, e))))
    point_same few p at.Announces (s, source, h) = (s, table_here p.source s source, unlinked_same p s h)
    point_same few p (at.Succeeds table) (s, h, link) = (s, unlinked_same p s h, link_here s (let l = h.0 in let m = h.1.made in omega (arith, l, m)) (h.3 s (omega arith) h.0).0 table link)
    point_same few p (at.Retires settle rest) (s, h, retire, next) =
        let there : (u : ℕ) → u < c.first → u < c.past = λ u l. (let m = h.1.made in omega (arith, l, m)) in (
          s,
          unlinked_same p s h,
          retires_here s (there s h.0) (h.3 s (omega arith) h.0).0 settle retire,
          (
            (λ l. let before : suc s < c.first = omega (arith, l, root) in link_here (suc s) (there (suc s) before) (h.3 (suc s) (omega arith) before).0 rest (next.0 before)),
            (λ e. next.1 (omega (arith, e, root))),
          ),
        )
    point_same few p at.Over (target, idle) = (root_table p.target target, idle_on idle)
    point_same few p (at.Refused fault) idle = idle_on idle
    point_same few p at.Begins h = absurd h
    point_same few p at.Follows h = absurd h
    point_same few p (at.Covers word) h = absurd h
    point_same few p (at.Passes word code table) h = absurd h
    point_same few p (at.Grows word code making) h = absurd h
    point_same few p (at.Tallies word fault) h = absurd h
    point_same few p (at.Unmarks word fault) h = absurd h
    point_same few p (at.Unclaims fault) h = absurd h

  -- The root has left the table that it copies.
  module _ (on : c.first < c2.first) where
    left_first : Left c2 began c.first
    left_first = left_now same (spot_of hash) (is_incremental setting.mode) caller c c2 others.leaves began since rule.common.live on

    from_here : (t : ℕ) → c.first < t → t < c.past → c2.from t ≡ c.first
    from_here t l made = others.leaves.remembers.from t made ∙ moments.froms blocking t l made

    passes : (t : ℕ) → c.first < t → t < c.past → t ≤ c2.first
    passes t l made = (others.leaves.goes_on blocking on t l made).0

    copies_late : (p : Copier) (t : ℕ) → CopiesInto same hash w caller setting c blocks p t → ((u j : ℕ) → c2.first < u → is_of_caller caller (c.share u j) ≡ false)
        → CopiesSuperseded same hash w2 caller setting c2 blocks2 began p c.first t
    copies_late p t h idle = record {
      source = table_here p.source c.first h.0;
      target = table_here p.target t h.2;
      order = h.1;
      left = left_first;
      over = passes t h.1 h.2.made;
      from = from_here t h.1 h.2.made;
      whole = h.3;
      idle = λ u j l. not_mine u j (idle u j l);
    }

    rests_late : (p : Copier) (t : ℕ) → RestsIn same hash w caller setting c blocks p t → CopiesSuperseded same hash w2 caller setting c2 blocks2 began p c.first t
    rests_late p t h = copies_late p t h.0 (λ u j l. h.2 u j (omega (arith, l, on)))

    works_late_copies : (p : Copier) (t : ℕ) → CopiesInto same hash w caller setting c blocks p t → HasDoneIn same hash w caller setting c blocks t p.done
        → CopiesSuperseded same hash w2 caller setting c2 blocks2 began p c.first t
    works_late_copies p t h done =
        copies_late p t h (λ u j l. let over = passes t h.1 h.2.made in done.1 u j (omega (arith, l, on)) (λ e. omega (arith, e, l, over)))

    -- the table was given up, as the caller has a share
    given_up : (p : Copier) (t j : ℕ) → CopiesInto same hash w caller setting c blocks p t → j < c.len c.first → is_of_caller caller (c.share t j) ≡ true → c2.status t ≡ ABORTED
    given_up p t j h l mine = elim (others.leaves.root_stays t j h.1 h.2.made l mine) [
      | inl stays ↦ absurd (omega (arith, stays, on))
      | inr gone ↦ gone.1
    ]

    claimed_mine : (t j : ℕ) → c.share t j ≡ Claimed caller → is_of_caller caller (c.share t j) ≡ true
    claimed_mine t j e = ap (is_of_caller caller) e ∙ eq-eqb caller caller refl

    within_late : (p : Copier) (t : ℕ) → CopiesInto same hash w caller setting c blocks p t → (p.place < p.end) → p.end ≤ c.len c.first → HasRange same hash w2 caller setting c2 blocks2 began p c.first
    within_late p t h place end = (place, (let e = len_here c.first h.0.made in omega (arith, end, e)))

    works_late : (p : Copier) (t n : ℕ) (k : K) (word : ℕ) → WorksIn same hash w caller setting c blocks p t n k word → WorksOnSuperseded same hash w2 caller setting c2 blocks2 began p c.first t n k word
    works_late p t n k word h =
        let source = h.copies.0 in
        record {
          copies = (
            works_late_copies p t h.copies h.has_done,
            given_up p t p.place h.copies (let i = h.inside in omega (arith, i.0, i.1)) (claimed_mine t p.place (h.claims.0 p.place (omega arith) h.inside.0)),
          );
          inside = within_late p t h.copies h.inside.0 h.inside.1;
          place = marked_stays c.first p.place n h.place;
          key = key_here c.first p.place n source.made source.known h.place ∙ h.key;
          word_is = h.word_is ∙ sym (word_here c.first p.place n source.made source.known h.place);
        }

    tries_late : (p : Copier) (word code : ℕ) (table : Table) (probe : Probe) → TriesIn same hash w caller setting c blocks p word code table probe
        → TriesAtSuperseded same hash w2 caller setting c2 blocks2 began p word code table probe
    tries_late p word code table probe (t, n, k, j, works, code_is, table_is, trial, taken) = (
      c.first,
      t,
      n,
      k,
      j,
      works_late p t n k word works,
      code_is,
      table_is,
      trial_on same hash setting caller w w2 c c2 blocks blocks2 others (trial_at table probe) code t j trial,
    )

    unlinked_late : (p : Copier) (s : ℕ) → HasUnlinkedFrom same hash w caller setting c blocks p s → HasUnlinkedSuperseded same hash w2 caller setting c2 blocks2 began p s c.first
    unlinked_late p s (l, target, idle, cut) = (
      l,
      table_here p.target c.first target,
      left_first,
      idle_on idle,
      λ u low high.
          let it = cut u low high in
          let made : u < c.past = (let m = target.made in omega (arith, high, m)) in
          (table_known_on same hash setting caller w w2 c c2 blocks blocks2 others u made it.0, cut_here u made it.0 it.1),
    )

    abbrev To : Copier → Point → Type 0
    To p stands = CopyingFactsBlocking same hash w2 caller setting c2 blocks2 p stands ⊎ SupersededCopying same hash w2 caller setting c2 blocks2 began p stands

    point_moved : (p : Copier) (stands : Point) → CopyingFactsBlocking same hash w caller setting c blocks p stands → To p stands
    point_moved p at.Asks (t, h) = inr (c.first, t, rests_late p t h)
    point_moved p at.Sees (t, h) = inr (c.first, t, rests_late p t h)
    point_moved p at.Claims (t, h, l) = inr (c.first, t, rests_late p t h)
    point_moved p at.Marks (t, copies, done, range, place, end) = inr (
      c.first,
      t,
      (works_late_copies p t copies done, given_up p t p.place copies (omega (arith, place, end)) (claimed_mine t p.place (range.0 p.place (omega arith) place))),
      within_late p t copies place end,
    )
    point_moved p (at.Probes word code table probe) h = inr (tries_late p word code table probe h)
    point_moved p (at.Puts word code table probe) h = inr (tries_late p word code table probe h)
    point_moved p at.Counts (t, copies, some, done, none) =
        let one = some_done caller (c.share t) (c.len c.first) (let e = done.0 in omega (arith, some, e)) in
        inr (c.first, t, (works_late_copies p t copies done, given_up p t one.0 copies one.1 one.2))
    point_moved p at.Aborts (t, (rests, j, l, lost)) =
        inr (c.first, t, (rests_late p t rests, others.leaves.gave_up blocking on t j rests.0.1 rests.0.2.made l lost))
    point_moved p at.Replaces (t, rests, aborted) = inr (c.first, t, (rests_late p t rests, others.leaves.aborted t aborted))
    point_moved p (at.Remakes making) (t, rests, aborted, table) = inr (
      c.first,
      t,
      (rests_late p t rests, others.leaves.aborted t aborted),
      next_table_on same hash setting blocking caller w w2 c c2 blocks blocks2 others t (suc t) rests.0.2.made rests.0.2.known making table,
    )
    point_moved p at.Promotes (t, rests, all) = inr (c.first, t, rests_late p t rests)
    point_moved p at.Announces (s, source, h) = inr (s, c.first, table_here p.source s source, unlinked_late p s h)
    point_moved p (at.Succeeds table) (s, h, link) =
        inr (s, c.first, unlinked_late p s h, link_here s (let l = h.0 in let m = h.1.made in omega (arith, l, m)) (h.3 s (omega arith) h.0).0 table link)
    point_moved p (at.Retires settle rest) (s, h, retire, next) =
        let there : (u : ℕ) → u < c.first → u < c.past = λ u l. (let m = h.1.made in omega (arith, l, m)) in inr (
          s,
          c.first,
          unlinked_late p s h,
          retires_here s (there s h.0) (h.3 s (omega arith) h.0).0 settle retire,
          ((λ l. link_here (suc s) (there (suc s) l) (h.3 (suc s) (omega arith) l).0 rest (next.0 l)), next.1),
        )
    point_moved p at.Over (target, idle) = inr (c.first, table_here p.target c.first target, left_first, idle_on idle)
    point_moved p (at.Refused fault) idle = inl (idle_on idle)
    point_moved p at.Begins h = absurd h
    point_moved p at.Follows h = absurd h
    point_moved p (at.Covers word) h = absurd h
    point_moved p (at.Passes word code table) h = absurd h
    point_moved p (at.Grows word code making) h = absurd h
    point_moved p (at.Tallies word fault) h = absurd h
    point_moved p (at.Unmarks word fault) h = absurd h
    point_moved p (at.Unclaims fault) h = absurd h

  -- what it knows, or what it is to know once the root has left its table
  pub copier_on : ClaimsStayFew c c2 → (p : Copier) → CopierFactsBlocking same hash w caller setting c blocks p
      → CopierFactsBlocking same hash w2 caller setting c2 blocks2 p ⊎ SupersededCopierFacts same hash w2 caller setting c2 blocks2 began p
  copier_on few p h = elim (cases_lt c.first c2.first) [
    | inl on ↦ elim (point_moved on p p.stands h.point) as (λ _. CopierFactsBlocking same hash w2 caller setting c2 blocks2 p ⊎ SupersededCopierFacts same hash w2 caller setting c2 blocks2 began p) [
      | inl fresh ↦ inl (record { setting_is = h.setting_is; point = fresh })
      | inr late ↦ inr (record { setting_is = h.setting_is; point = late })
    ]
    | inr still ↦ inl (record { setting_is = h.setting_is; point = point_same (let f = forward in omega (arith, f, still)) few p p.stands h.point })
  ]

  -- What it knows once the root has left its table lasts.
  left_here : (t : ℕ) → Left c began t → Left c2 began t
  left_here = left_on same (spot_of hash) (is_incremental setting.mode) caller c c2 others.leaves began

  late_copies : (p : Copier) (u t : ℕ) → CopiesSuperseded same hash w caller setting c blocks began p u t → CopiesSuperseded same hash w2 caller setting c2 blocks2 began p u t
  late_copies p u t h = record {
    source = table_here p.source u h.source;
    target = table_here p.target t h.target;
    order = h.order;
    left = left_here u h.left;
    over = (let l = h.over in let f = forward in omega (arith, l, f));
    from = others.leaves.remembers.from t h.target.made ∙ h.from;
    whole = h.whole;
    idle = idle_on h.idle;
  }

  late_aborted : (p : Copier) (u t : ℕ) → CopiesAborted same hash w caller setting c blocks began p u t → CopiesAborted same hash w2 caller setting c2 blocks2 began p u t
  late_aborted p u t h = (late_copies p u t h.0, others.leaves.aborted t h.1)

  late_range : (p : Copier) (u : ℕ) → u < c.past → HasRange same hash w caller setting c blocks began p u → HasRange same hash w2 caller setting c2 blocks2 began p u
  late_range p u made h = (h.0, (let e = len_here u made in let l = h.1 in omega (arith, e, l)))

  late_works : (p : Copier) (u t n : ℕ) (k : K) (word : ℕ) → WorksOnSuperseded same hash w caller setting c blocks began p u t n k word → WorksOnSuperseded same hash w2 caller setting c2 blocks2 began p u t n k word
  late_works p u t n k word h =
      let source = h.copies.0.source in
      record {
        copies = late_aborted p u t h.copies;
        inside = late_range p u source.made h.inside;
        place = marked_stays u p.place n h.place;
        key = key_here u p.place n source.made source.known h.place ∙ h.key;
        word_is = h.word_is ∙ sym (word_here u p.place n source.made source.known h.place);
      }

  late_tries : (p : Copier) (word code : ℕ) (table : Table) (probe : Probe) → TriesAtSuperseded same hash w caller setting c blocks began p word code table probe
      → TriesAtSuperseded same hash w2 caller setting c2 blocks2 began p word code table probe
  late_tries p word code table probe (u, t, n, k, j, works, code_is, table_is, trial) =
      (u, t, n, k, j, late_works p u t n k word works, code_is, table_is, trial_on same hash setting caller w w2 c c2 blocks blocks2 others (trial_at table probe) code t j trial)

  late_unlinked : (p : Copier) (s t : ℕ) → HasUnlinkedSuperseded same hash w caller setting c blocks began p s t → HasUnlinkedSuperseded same hash w2 caller setting c2 blocks2 began p s t
  late_unlinked p s t (l, target, left, idle, cut) = (
    l,
    table_here p.target t target,
    left_here t left,
    idle_on idle,
    λ u low high.
        let it = cut u low high in
        let made : u < c.past = (let m = target.made in omega (arith, high, m)) in
        (table_known_on same hash setting caller w w2 c c2 blocks blocks2 others u made it.0, cut_here u made it.0 it.1),
  )

  late_point : (p : Copier) (stands : Point) → SupersededCopying same hash w caller setting c blocks began p stands → SupersededCopying same hash w2 caller setting c2 blocks2 began p stands
  late_point p at.Asks (u, t, h) = (u, t, late_copies p u t h)
  late_point p at.Sees (u, t, h) = (u, t, late_copies p u t h)
  late_point p at.Claims (u, t, h) = (u, t, late_copies p u t h)
  late_point p at.Marks (u, t, h, range) = (u, t, late_aborted p u t h, late_range p u h.0.source.made range)
  late_point p (at.Probes word code table probe) h = late_tries p word code table probe h
  late_point p (at.Puts word code table probe) h = late_tries p word code table probe h
  late_point p at.Counts (u, t, h) = (u, t, late_aborted p u t h)
  late_point p at.Aborts (u, t, h) = (u, t, late_aborted p u t h)
  late_point p at.Replaces (u, t, h) = (u, t, late_aborted p u t h)
  late_point p (at.Remakes making) (u, t, h, table) =
      (u, t, late_aborted p u t h, next_table_on same hash setting blocking caller w w2 c c2 blocks blocks2 others t (suc t) h.0.target.made h.0.target.known making table)
  late_point p at.Promotes (u, t, h) = (u, t, late_copies p u t h)
  late_point p at.Announces (s, t, source, h) = (s, t, table_here p.source s source, late_unlinked p s t h)
  late_point p (at.Succeeds table) (s, t, h, link) = (s, t, late_unlinked p s t h, link_here s (let l = h.0 in let m = h.1.made in omega (arith, l, m)) (h.4 s (omega arith) h.0).0 table link)
  late_point p (at.Retires settle rest) (s, t, h, retire, next) =
      let there : (u : ℕ) → u < t → u < c.past = λ u l. (let m = h.1.made in omega (arith, l, m)) in (
        s,
        t,
        late_unlinked p s t h,
        retires_here s (there s h.0) (h.4 s (omega arith) h.0).0 settle retire,
        ((λ l. link_here (suc s) (there (suc s) l) (h.4 (suc s) (omega arith) l).0 rest (next.0 l)), next.1),
      )
  late_point p at.Over (t, target, left, idle) = (t, table_here p.target t target, left_here t left, idle_on idle)
  late_point p (at.Refused fault) h = absurd h
  late_point p at.Begins h = absurd h
  late_point p at.Follows h = absurd h
  late_point p (at.Covers word) h = absurd h
  late_point p (at.Passes word code table) h = absurd h
  late_point p (at.Grows word code making) h = absurd h
  late_point p (at.Tallies word fault) h = absurd h
  late_point p (at.Unmarks word fault) h = absurd h
  late_point p (at.Unclaims fault) h = absurd h

  pub late_copier_on : (p : Copier) → SupersededCopierFacts same hash w caller setting c blocks began p → SupersededCopierFacts same hash w2 caller setting c2 blocks2 began p
  late_copier_on p h = record { setting_is = h.setting_is; point = late_point p p.stands h.point }
