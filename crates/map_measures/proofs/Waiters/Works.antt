-- In blocking mode, a copier that has places to copy: after its step each copying that is not over has who ends it on; and if it gives its places up, it is to say so.
use Rattle.std.specs.Prelude.{if◌then◌else◌, ℕ, ◌+◌, ◌-◌, ◌%◌, ◌/◌, ◌^◌, ◌==◌, nat_lt, cond, eqb, Bool, true, false, Ok, Err}
use Rattle.std.proofs.Common.{◌≡◌, ◌≢◌, ◌<◌, ◌≤◌, ◌⊎◌, inl, inr, refl, ap, sym, subst, ◌∙◌, arith, eqb-true}
use Rattle.std.proofs.lemmas.Bool.{cases_eq, eq-eqb, lt-ltb, ne_eqb}
use Rattle.seize_words.specs.OneMemory.Op.{Out, Found, Exchanged}
use Rattle.seize_words.specs.OneMemory.Mem.{Mem, Took, value_at}
use Rattle.seize_words.specs.OneMemory.Plan.{Steps, Now}
use Rattle.map_machines.specs.Copier.{plan_at, copier_plan}
use Rattle.map_machines.specs.CopierMarks.{is_mine, is_awaited, marked, mine_marked, to}
use Rattle.map_machines.specs.CopierPlaces.{next_try, pair_put, place_read, after_put}
use Rattle.map_machines.specs.CopierStates.{next_place, place_done, behind}
use Rattle.map_machines.specs.declared.yielding.Yielding.{Yielding}
use Rattle.map_machines.specs.declared.yielding.Yielding.TheVariants.{Goes, Waits}
use Rattle.map_tables.specs.declared.probe.Probe.{Probe}
use Rattle.many_calls.specs.Given.RuleChart.{Chart, Share, Free, Claimed, Done, Counted, Lost}
use Rattle.many_calls.specs.Given.RuleMoves.{Counts, GivesUp, Allowed, after, counted_to, is_done_by, is_of_caller, with_counted, with_lost}
use Rattle.many_calls.specs.Given.RuleRule.{total, Rule}
use Rattle.many_calls.specs.Given.PointsFactsCopiesBlocking.{ClaimsRange, CopierFactsBlocking, CopiesInto, CopyingFactsBlocking, HasDoneIn}
use Rattle.many_calls.specs.Given.LateLateCopies.{SupersededCopierFacts, SupersededCopying}
use Rattle.seize.specs.World.{World}
use Rattle.map_tables.specs.Chunks.{is_incremental}
use Rattle.map_tables.specs.declared.node.Node.{Node}
use Rattle.map_tables.specs.declared.setting.Setting.{Setting}
use Rattle.map_machines.specs.declared.copier.Copier.{Copier}
use Rattle.map_machines.specs.declared.copier.Copying.TheVariants as at
use Rattle.many_calls.specs.Given.RuleWords.{Blocks}
use Rattle.many_calls.specs.Given.RuleMaps.{spot_of, IsTable}
use Rattle.map_tables.specs.declared.table.Table.{Table}
use Rattle.map_machines.specs.declared.copier.Copying.{Copying as Point}
use Rattle.many_calls.specs.Given.RuleInWorld.{IsMapIn}
use Rattle.many_calls.proofs.Given.RuleMoves.Totals.{total_none}
use Rattle.many_calls.proofs.Given.RuleShares.CopiersShares.{done_fits}
use Rattle.many_calls.proofs.Given.RuleKeys.Always.{Always, always_if, always_steps}
use Rattle.map_measures.proofs.Waits.Endings.{OthersEnd}
use Rattle.map_measures.specs.Waits.Others.{EndsAt}
use Rattle.map_measures.specs.Waiters.Blocking.{AbortsAt, IsUncounted}
use Rattle.map_measures.proofs.Waiters.Moves.{AllKept, any_move, given_up, lost_before, lost_uncounted, or_own, still}
use Rattle.map_measures.proofs.Waiters.Reached.{Reached, moved, rule}
use Rattle.many_calls.proofs.Given.PointsSteps.AloneCharts.{not_counted as counted_lost}
use Rattle.many_calls.proofs.Given.RuleShares.LastsShares.{total_zero}
use Rattle.many_calls.proofs.Given.RuleShares.SharesBlocking.{lost_no_more as lost_none}

-- the points of a copier at which it has places to copy, or to count, or has given up
abbrev pub IsWork : Point → Type 0
IsWork at.Marks = Unit {0}
IsWork (at.Probes word code table probe) = Unit {0}
IsWork (at.Puts word code table probe) = Unit {0}
IsWork at.Counts = Unit {0}
IsWork at.Aborts = Unit {0}
IsWork _ = ⊥

-- the points at which it has a place to copy
abbrev pub IsCopying : Point → Type 0
IsCopying at.Marks = Unit {0}
IsCopying (at.Probes word code table probe) = Unit {0}
IsCopying (at.Puts word code table probe) = Unit {0}
IsCopying _ = ⊥

-- it works on at the same table
abbrev pub WorksFor : Copier → Copier → Type 0
WorksFor p q = (q.target ≡ p.target) × IsWork q.stands

-- where it has done some
counts_next : (p : Copier) → ((p.done == 0) ≡ false) → WorksFor p (next_place p)
counts_next p some = by (nat_lt p.place (p.end - 1)) (p.done == 0) some
  where
    by : (a b : Bool) → b ≡ false → WorksFor p (if a then record p { place = p.place + 1; stands = at.Marks } else (if b then behind p else record p { stands = at.Counts }))
    by true b e = (refl, tt)
    by false false e = (refl, tt)
    by false true e = absurd (cc e)

done_works : (p : Copier) → p.done < 2 ^ 63 → WorksFor p (place_done p)
done_works p few = counts_next (record p { done = (p.done + 1) % 2 ^ 64 }) (ne_eqb ((p.done + 1) % 2 ^ 64) 0 (λ e. omega (arith, e, few)))

try_works : (p : Copier) → is_incremental p.setting.mode ≡ false → (word code : ℕ) (table : Table) (probe : Probe) → WorksFor p (next_try p word code table probe)
try_works p mode word code table probe = by (nat_lt probe.len table.limit) (is_incremental p.setting.mode) _ _ mode (refl, tt)
  where
    by : (a b : Bool) (x y : Copier) → b ≡ false → WorksFor p x → WorksFor p (if a then x else (if b then y else record p { place = 0; end = 0; done = 0; stands = at.Aborts }))
    by true b x y e h = h
    by false false x y e h = (refl, tt)
    by false true x y e h = absurd (cc e)

put_works_on : (p : Copier) (word : ℕ) → is_incremental p.setting.mode ≡ false → p.done < 2 ^ 63 → WorksFor p (pair_put p word)
put_works_on p word mode few = by (is_incremental p.setting.mode) _ mode
  where
    by : (b : Bool) (x : Copier) → b ≡ false → WorksFor p (if b then x else place_done p)
    by false x e = done_works p few
    by true x e = absurd (cc e)

-- each place is its own to copy
mine_at_once : (p : Copier) (word : ℕ) → is_incremental p.setting.mode ≡ false → is_mine p word ≡ true
mine_at_once p word mode = by (is_incremental p.setting.mode) _ mode
  where
    by : (b x : Bool) → b ≡ false → (if b then x else true) ≡ true
    by false x e = refl
    by true x e = absurd (cc e)

module _ (K V : Type 0) (hash : K → ℕ) (p : Copier) (mode : is_incremental p.setting.mode ≡ false) (few : p.done < 2 ^ 63) (here : IsWork p.stands) where
  abbrev pub Works : Copier × Yielding (Node K V) Table → Type 0
  Works end = (end.1 ≡ Goes) × WorksFor p end.0

  marked_works : (out : Out (Node K V)) → Always Works (marked hash p out)
  marked_works (Found word) =
      subst (λ (b : Bool). Always Works (if b then mine_marked hash p word else (if is_awaited p word then Now (p, Waits) else to (next_place p)))) (sym (mine_at_once p word mode))
      (always_if Works (word / 2048 == 0) _ _ (refl, done_works p few) (λ value. (refl, (refl, tt))))
  marked_works _ = (refl, (refl, here))

  place_works : (word code : ℕ) (table : Table) (probe : Probe) (out : Out (Node K V)) → Always Works (place_read p word code table probe out)
  place_works word code table probe (Found found) = always_if Works (found == 0) _ _ (refl, (refl, tt)) (refl, try_works p mode word code table probe)
  place_works word code table probe _ = (refl, (refl, here))

  put_works : (word code : ℕ) (table : Table) (probe : Probe) (out : Out (Node K V)) → Always Works (after_put p word code table probe out)
  put_works word code table probe (Exchanged (Ok found)) = (refl, put_works_on p word mode few)
  put_works word code table probe (Exchanged (Err found)) = (refl, try_works p mode word code table probe)
  put_works word code table probe _ = (refl, (refl, here))

  pub works_on : (m m2 : Mem (Node K V)) (end : Copier × Yielding (Node K V) Table) → IsCopying p.stands → Steps Took value_at m (copier_plan hash p) m2 end → Works end
  works_on m m2 end its s = by p.stands its s
    where
      by : (stands : Point) → IsCopying stands → Steps Took value_at m (plan_at hash p stands) m2 end → Works end
      by at.Marks its s = always_steps Works m m2 (plan_at hash p at.Marks) end marked_works s
      by (at.Probes word code table probe) its s = always_steps Works m m2 (plan_at hash p (at.Probes word code table probe)) end (place_works word code table probe) s
      by (at.Puts word code table probe) its s = always_steps Works m m2 (plan_at hash p (at.Puts word code table probe)) end (put_works word code table probe) s
      by _ its s = absurd its

-- what a caller has not done it does not count
none_counted : (i : ℕ) (share : Share) → is_done_by i share ≡ 0 → share ≢ Counted → with_counted i share ≢ Counted
none_counted i (Done k) none old = by (eqb k i) none
  where
    by : (b : Bool) → ◌≡◌ {A = ℕ} (cond b 1 0) 0 → cond b Counted (Done k) ≢ Counted
    by true one = absurd (cc one)
    by false zero_is = λ e. cc e
none_counted i Free none old = old
none_counted i (Claimed k) none old = old
none_counted i Counted none old = old
none_counted i Lost none old = old

none_done : (i : ℕ) (share : Share) → is_of_caller i share ≡ false → is_done_by i share ≡ 0
none_done i (Done k) none = ap (λ (b : Bool). cond b 1 0) none
none_done i Free none = refl
none_done i (Claimed k) none = refl
none_done i Counted none = refl
none_done i Lost none = refl

module _ {K V : Type 0} (same : K → K → Bool) (hash : K → ℕ) (caller : ℕ) (setting : Setting) (mode : is_incremental setting.mode ≡ false) (w : World (Node K V)) (c : Chart K) (blocks : Blocks)
    (map : IsMapIn same hash setting w c blocks) (p : Copier) (m2 : Mem (Node K V)) (d : Chart K) (blocks2 : Blocks) (r : Reached same hash setting mode w caller c blocks map m2 d blocks2)
    (P A G : ℕ → Type 0) (t : ℕ) (into : CopiesInto same hash w caller setting c blocks p t) (has : HasDoneIn same hash w caller setting c blocks t p.done)
    (first : d.first ≡ c.first) (copied : d.copied t ≡ c.copied t) where
  turn : p.target.turn ≡ t
  turn = ap (λ (x : Table). x.turn) into.2.is

  its_rule : Rule same (spot_of hash) false c
  its_rule = rule same hash setting mode w caller c blocks map m2 d blocks2

  -- so it has done less than a word can count
  pub few_done : p.done < 2 ^ 63
  few_done =
      let most = done_fits caller (c.share t) (c.len c.first) in let its = has.0 in let long = (map.map.shows.sized c.first into.0.made).most in
      omega (arith, most, its, long)

  module _ (all : AllKept P A G c (λ u. ⊥) (λ u. ⊥)) where
    -- nothing was counted
    counts_so : (u number : ℕ) → Allowed same (spot_of hash) false (Counts caller u number) c → d ≡ after (spot_of hash) false (Counts caller u number) c → AllKept P A G d (λ v. ⊥) (λ v. ⊥)
    counts_so u number allowed is =
        subst (λ (x : Chart K). AllKept P A G x (λ v. ⊥) (λ v. ⊥)) (sym is)
        (still P A G same hash c its_rule (λ v. ⊥) (λ v. ⊥) (after (spot_of hash) false (Counts caller u number) c) refl refl refl refl
        (λ v j behind l old. uncounted v j behind l (eqb v u) refl old) (λ v j behind l lost. before v j (eqb v u) lost) all)
      where
        -- for its own table
        nothing : u ≡ t → number ≡ 0
        nothing one =
            let ahead : c.first < u = subst (λ (n : ℕ). c.first < n) (sym one) into.1 in
            let now : d.copied u ≡ counted_to c u number =
            ap (λ (x : Chart K). x.copied u) is ∙ ap (λ (b : Bool). cond b (counted_to c u number) (c.copied u)) (eq-eqb u u refl) in
            let more : counted_to c u number ≡ c.copied u + number = ap (λ (b : Bool). cond b (c.copied u + number) number) (lt-ltb c.first u ahead) in
            let same_count : d.copied u ≡ c.copied u = subst (λ (n : ℕ). d.copied n ≡ c.copied n) (sym one) copied in
            omega (arith, now, more, same_count)

        none_here : (j : ℕ) → j < c.len c.first → u ≡ t → is_done_by caller (c.share u j) ≡ 0
        none_here j l one =
            total_zero (is_done_by caller) (c.share u) (c.len c.first)
            (sym (allowed.1 (subst (λ (n : ℕ). c.first < n) (sym one) into.1)) ∙ nothing one) j l

        none_at : (v j : ℕ) → c.first < v → j < c.len c.first → v ≡ u → is_done_by caller (c.share v j) ≡ 0
        none_at v j behind l e = elim (cases_eq u t) as (λ _. is_done_by caller (c.share v j) ≡ 0) [
          | inl one ↦ subst (λ (n : ℕ). is_done_by caller (c.share n j) ≡ 0) (sym e) (none_here j l one)
          | inr other ↦ none_done caller (c.share v j) (has.1 v j behind (λ f. other (sym e ∙ f)))
        ]

        uncounted : (v j : ℕ) → c.first < v → j < c.len c.first → (b : Bool) → eqb v u ≡ b → c.share v j ≢ Counted → cond b (with_counted caller (c.share v j)) (c.share v j) ≢ Counted
        uncounted v j behind l true e old = none_counted caller (c.share v j) (none_at v j behind l (eqb-true v u e)) old
        uncounted v j behind l false e old = old

        before : (v j : ℕ) (b : Bool) → cond b (with_counted caller (c.share v j)) (c.share v j) ≡ Lost → c.share v j ≡ Lost
        before v j true lost = counted_lost caller (c.share v j) lost
        before v j false lost = lost

    -- what it gives up for another table it has not
    gives_other : (u : ℕ) → u ≢ t → d ≡ after (spot_of hash) false (GivesUp caller u) c → AllKept P A G d (λ v. ⊥) (λ v. ⊥)
    gives_other u other is =
        subst (λ (x : Chart K). AllKept P A G x (λ v. ⊥) (λ v. ⊥)) (sym is)
        (still P A G same hash c its_rule (λ v. ⊥) (λ v. ⊥) (after (spot_of hash) false (GivesUp caller u) c) refl refl refl refl
        (λ v j behind l old. uncounted v j (eqb v u) old) (λ v j behind l lost. before v j behind (eqb v u) refl lost) all)
      where
        uncounted : (v j : ℕ) (b : Bool) → c.share v j ≢ Counted → cond b (with_lost caller (c.share v j)) (c.share v j) ≢ Counted
        uncounted v j true old = lost_uncounted caller (c.share v j) old
        uncounted v j false old = old

        before : (v j : ℕ) → c.first < v → (b : Bool) → eqb v u ≡ b → cond b (with_lost caller (c.share v j)) (c.share v j) ≡ Lost → c.share v j ≡ Lost
        before v j behind true e lost = lost_before caller (c.share v j) (has.1 v j behind (λ f. other (sym (eqb-true v u e) ∙ f))) lost
        before v j behind false e lost = lost

  -- what it is after its step
  module _ (q : Copier) (works : WorksFor p q) (w2 : World (Node K V)) (seen2 : Blocks)
      (knows : CopierFactsBlocking same hash w2 caller setting d seen2 q ⊎ ((began : ℕ) × SupersededCopierFacts same hash w2 caller setting d seen2 began q)) where
    abbrev Then : Type 0
    Then = AllKept P A G d (λ u. EndsAt d q q.stands u) (λ u. AbortsAt d q q.stands u)

    then_turn : q.target.turn ≡ t
    then_turn = ap (λ (x : Table). x.turn) works.0 ∙ turn

    -- where it has given up, it has nothing of it
    module _ (is : d ≡ after (spot_of hash) false (GivesUp caller t) c) where
      gone : (j : ℕ) → is_of_caller caller (d.share t j) ≡ false
      gone j =
          ap (λ (x : Chart K). is_of_caller caller (x.share t j)) is
          ∙ ap (λ (b : Bool). is_of_caller caller (cond b (with_lost caller (c.share t j)) (c.share t j))) (eq-eqb t t refl) ∙ lost_none caller (c.share t j)

      no_claim : (u place : ℕ) → q.target.turn ≡ u → d.share u place ≡ Claimed caller → ⊥
      no_claim u place its claim =
          let there : d.share t place ≡ Claimed caller = subst (λ (n : ℕ). d.share n place ≡ Claimed caller) (sym its ∙ then_turn) claim in
          let yes : is_of_caller caller (d.share t place) ≡ true = ap (is_of_caller caller) there ∙ eq-eqb caller caller refl in
          let no = gone place in cc (yes, no)

      no_range : (u : ℕ) → IsTable d seen2 q.target u → ClaimsRange same hash w2 caller setting d seen2 u q.place q.end → q.place < q.end → ⊥
      no_range u target range inside = no_claim u q.place (ap (λ (x : Table). x.turn) target.is) (range.0 q.place (omega arith) inside)

      none_left : (u : ℕ) → q.target.turn ≡ u → q.done ≡ total (is_done_by caller) (d.share u) (d.len d.first) → 0 < q.done → ⊥
      none_left u its is_done some =
          let done_there : q.done ≡ total (is_done_by caller) (d.share t) (d.len d.first) =
          subst (λ (n : ℕ). q.done ≡ total (is_done_by caller) (d.share n) (d.len d.first)) (sym its ∙ then_turn) is_done in
          let nothing : total (is_done_by caller) (d.share t) (d.len d.first) ≡ 0 =
          total_none (is_done_by caller) (d.share t) (d.len d.first) (λ j l. none_done caller (d.share t j) (gone j)) in
          omega (arith, done_there, nothing, some)

      too_late : (u : ℕ) → IsTable d seen2 q.target u → u ≤ d.first → ⊥
      too_late u target over =
          let its : q.target.turn ≡ u = ap (λ (x : Table). x.turn) target.is in
          let one = then_turn in let ahead = into.1 in omega (arith, its, one, over, ahead, first)

      gives_own : AllKept P A G c (λ u. ⊥) (λ u. ⊥) → Then
      gives_own all = by q.stands refl works.1 knows
        where
          Facts : Point → Type 0
          Facts stands = CopyingFactsBlocking same hash w2 caller setting d seen2 q stands

          given_so : q.stands ≡ at.Aborts → Then
          given_so here =
              let ahead : d.first < t = (let behind = into.1 in omega (arith, first, behind)) in
              or_end (subst (λ (x : Chart K). AllKept P A G x (λ u. ⊥) (λ u. AbortsAt d q q.stands u)) (sym is)
              (given_up P A G same hash c its_rule (λ u. ⊥) (λ u. AbortsAt d q q.stands u) caller t (subst (λ (s : Point). AbortsAt d q s t) (sym here) (then_turn, ahead)) all))
            where
              or_end : AllKept P A G d (λ u. ⊥) (λ u. AbortsAt d q q.stands u) → Then
              or_end (ends, given) = (λ u some made unfinished. wider u (ends u some made unfinished), given)
                where
                  wider : (u : ℕ) → IsUncounted d u ⊎ (OthersEnd P A d u ⊎ ⊥) → IsUncounted d u ⊎ (OthersEnd P A d u ⊎ EndsAt d q q.stands u)
                  wider u (inl uncounted) = inl uncounted
                  wider u (inr (inl others)) = inr (inl others)
                  wider u (inr (inr none)) = absurd none

          fresh : (stands : Point) → IsWork stands → (stands ≡ at.Aborts → ⊥) → Facts stands → ⊥
          fresh at.Marks its other (u, there, done, range, inside, most) = no_range u there.2 range inside
          fresh (at.Probes word code table probe) its other (u, n, k, j, its_work, code_is, table_is, trial, taken) = no_range u its_work.copies.2 its_work.claims its_work.inside.0
          fresh (at.Puts word code table probe) its other (u, n, k, j, its_work, code_is, table_is, trial, taken) = no_range u its_work.copies.2 its_work.claims its_work.inside.0
          fresh at.Counts its other (u, there, some, done, none) = none_left u (ap (λ (x : Table). x.turn) there.2.is) done.0 some
          fresh at.Aborts its other facts = other refl
          fresh _ its other facts = its

          late : (began : ℕ) (stands : Point) → IsWork stands → SupersededCopying same hash w2 caller setting d seen2 began q stands → ⊥
          late began at.Marks its (u, v, copies, range) = too_late v copies.0.target copies.0.over
          late began (at.Probes word code table probe) its (u, v, n, k, j, its_work, code_is, table_is, trial) = too_late v its_work.copies.0.target its_work.copies.0.over
          late began (at.Puts word code table probe) its (u, v, n, k, j, its_work, code_is, table_is, trial) = too_late v its_work.copies.0.target its_work.copies.0.over
          late began at.Counts its (u, v, copies) = too_late v copies.0.target copies.0.over
          late began at.Aborts its (u, v, copies) = too_late v copies.0.target copies.0.over
          late began _ its facts = its

          is_aborts : (stands : Point) → (stands ≡ at.Aborts) ⊎ (stands ≡ at.Aborts → ⊥)
          is_aborts at.Aborts = inl refl
          is_aborts _ = inr (λ e. cc e)

          by : (stands : Point) → q.stands ≡ stands → IsWork stands
              → CopierFactsBlocking same hash w2 caller setting d seen2 q ⊎ ((began : ℕ) × SupersededCopierFacts same hash w2 caller setting d seen2 began q) → Then
          by stands here its (inr (began, lates)) = absurd (late began stands its (subst (λ (s : Point). SupersededCopying same hash w2 caller setting d seen2 began q s) here lates.point))
          by stands here its (inl facts) = elim (is_aborts stands) as (λ _. Then) [
            | inl e ↦ given_so (here ∙ e)
            | inr other ↦ absurd (fresh stands its other (subst (λ (s : Point). Facts s) here facts.point))
          ]

    -- so its step keeps who ends a copying, and if it gives up, it is to say so
    pub works_keep : AllKept P A G c (λ u. ⊥) (λ u. ⊥) → Then
    works_keep all =
        any_move P A G same hash c its_rule caller d first (λ u. ⊥) (λ u. ⊥) all Then (λ kept. wider kept) (λ u number allowed is. wider (counts_so all u number allowed is))
        (λ u is. elim (cases_eq u t) as (λ _. Then) [
          | inl one ↦ gives_own (is ∙ ap (λ (n : ℕ). after (spot_of hash) false (GivesUp caller n) c) one) all
          | inr other ↦ wider (gives_other all u other is)
        ])
        (moved same hash setting mode w caller c blocks map m2 d blocks2 r)
      where
        wider : AllKept P A G d (λ u. ⊥) (λ u. ⊥) → Then
        wider kept = or_own P A G d (λ u. EndsAt d q q.stands u) (λ u. AbortsAt d q q.stands u) kept
