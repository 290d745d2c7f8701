-- What steps of others leave to a caller they leave one after another.
use Rattle.std.proofs.Common.{◌≡◌, ℕ, suc, ◌<◌, ◌≤◌, Bool, true, false, ◌⊎◌, inl, inr, refl, arith, ap, sym, subst, ◌∙◌}
use Rattle.std.proofs.lemmas.Bool.{cases_lt, eq-eqb}
use Rattle.map_machines.specs.Given.TablesDeclared.status.TheConstants.Status.{ABORTED}
use Rattle.map_rule.specs.Chart.{Copying, Holds, Claimed, Chart, is_marked, Lost}
use Rattle.map_rule.specs.Moves.{is_of_caller}
use Rattle.map_rule.specs.Lasts.{Lasts}
use Rattle.map_rule.specs.Moments.{Remembers}
use Rattle.map_rule.specs.Leaves.{Leaves, LeavesOnAndOn, LiesAlike}

module _ {K : Type 0} (same : K → K → Bool) (spot : ℕ → K → ℕ → ℕ) (incremental : Bool) where
  lasts_on : (c c2 c3 : Chart K) → Lasts same spot incremental c c2 → Lasts same spot incremental c2 c3 → Lasts same spot incremental c c3
  lasts_on c c2 c3 a b = record {
    past = (let x = a.past in let y = b.past in omega (arith, x, y));
    first = (let x = a.first in let y = b.first in omega (arith, x, y));
    lens = λ t l. (let x = a.lens t l in let y = b.lens t (let p = a.past in omega (arith, l, p)) in (y.0 ∙ x.0, y.1 ∙ x.1));
    stored = (let x = a.stored in let y = b.stored in omega (arith, x, y));
    keys = λ n l. b.keys n (let p = a.stored in omega (arith, l, p)) ∙ a.keys n l;
    taken = λ t i e. b.taken t i (a.taken t i e);
    others = λ t i k e f. b.others t i k (a.taken t i e) (a.others t i k e f);
    copied = λ t i n borrowed e. b.copied t i n borrowed (a.copied t i n borrowed e);
    settled = λ t i e. b.settled t i (a.settled t i e);
    shut = λ t k e l s. b.shut t k e (let p = a.past in omega (arith, l, p)) (a.shut t k e l s);
    frozen = λ t i e m. b.frozen t i e (ap is_marked (a.frozen t i e m) ∙ m) ∙ a.frozen t i e m;
  }

  remembers_on : (c c2 c3 : Chart K) → Lasts same spot incremental c c2 → Remembers incremental c c2 → Remembers incremental c2 c3 → Remembers incremental c c3
  remembers_on c c2 c3 l a b = record {
    now = (let x = a.now in let y = b.now in omega (arith, x, y));
    was = λ m k. b.was m (let x = a.now in omega (arith, k, x)) ∙ a.was m k;
    passed = λ t k. b.passed t (let x = l.first in omega (arith, k, x)) ∙ a.passed t k;
    leaves = λ t k m. leaves t k m (cases_lt t c2.first);
    from = λ t k. b.from t (let x = l.past in omega (arith, k, x)) ∙ a.from t k;
  }
    where
      leaves : (t : ℕ) → c.first ≤ t → t < c3.first → (t < c2.first) ⊎ (c2.first ≤ t) → c.now ≤ c3.passed t
      leaves t k m (inl before) = let x = a.leaves t k before in let y = b.passed t before in omega (arith, x, y)
      leaves t k m (inr behind) = let x = a.now in let y = b.leaves t behind m in omega (arith, x, y)

  pub leaves_on : LeavesOnAndOn same spot incremental
  leaves_on i c c2 c3 a b = record {
    lasts = lasts_on c c2 c3 a.lasts b.lasts;
    remembers = remembers_on c c2 c3 a.lasts a.remembers b.remembers;
    gone = λ n l e. b.gone n (let s = a.lasts.stored in omega (arith, l, s)) (a.gone n l e);
    unnamed = λ e n l left t p phase borrowed at.
        let x = b.unnamed e n (let s = a.lasts.stored in omega (arith, l, s)) (a.gone n l left) t p phase borrowed at in a.unnamed e n l left t p x.0 borrowed x.1;
    aborted = λ t e. b.aborted t (a.aborted t e);
    promoted = λ t e. b.promoted t (a.promoted t e);
    spared = λ t l no. b.spared t (let f = a.lasts.first in omega (arith, l, f)) (a.spared t l no);
    claims = λ e t. (let x = a.claims e t in let y = b.claims e t in omega (arith, x, y));
    goes_on = λ e on t l m. goes_on e on t l m (cases_lt c.first c2.first);
    mine = λ t j own. let s = a.mine t j own in b.mine t j (ap (is_of_caller i) s ∙ own) ∙ s;
    mine_before = λ t j own. let s = b.mine_before t j own in a.mine_before t j (ap (is_of_caller i) s ∙ own) ∙ s;
    root_stays = λ t j l m k own. root_stays t j l m k own (a.root_stays t j l m k own);
    my_place = λ e j n borrowed next k own here. my_place e j n borrowed next k own here (a.my_place e j n borrowed next k own here);
    gave_up = λ e on t j l m k lost. gave_up e on t j l m k lost (cases_lt c.first c2.first);
    counted = λ t j e. b.counted t j (a.counted t j e);
    lost = λ t j e. b.lost t j (a.lost t j e);
  }
    where
      same_root : c.first ≤ c2.first → c2.first ≤ c.first → c2.first ≡ c.first
      same_root x y = omega (arith, x, y)

      -- the root's table is there where another one stands behind it
      root_len : (t : ℕ) → c.first < t → t < c.past → c2.first ≡ c.first → c2.len c2.first ≡ c.len c.first
      root_len t l m e = ap c2.len e ∙ (a.lasts.lens c.first (omega (arith, l, m))).0

      goes_on : incremental ≡ false → c.first < c3.first → (t : ℕ) → c.first < t → t < c.past → (c.first < c2.first) ⊎ (c2.first ≤ c.first)
          → (t ≤ c3.first) × ((c3.status t ≡ ABORTED) ⊎ (c.len c.first ≤ c3.claim t))
      goes_on e on t l m (inl early) =
          let x = a.goes_on e early t l m in (
            let p = x.0 in let q = b.lasts.first in omega (arith, p, q),
            elim x.1 as (λ _. (c3.status t ≡ ABORTED) ⊎ (c.len c.first ≤ c3.claim t)) [
              | inl gone ↦ inl (b.aborted t gone)
              | inr full ↦ inr (let y = b.claims e t in omega (arith, full, y))
            ],
          )
      goes_on e on t l m (inr late) =
          let root = same_root a.lasts.first late in
          let x = b.goes_on e (omega (arith, on, root)) t (omega (arith, l, root)) (let p = a.lasts.past in omega (arith, m, p)) in (
            x.0,
            elim x.1 as (λ _. (c3.status t ≡ ABORTED) ⊎ (c.len c.first ≤ c3.claim t)) [
              | inl gone ↦ inl gone
              | inr full ↦ inr (subst (λ (n : ℕ). n ≤ c3.claim t) (root_len t l m root) full)
            ],
          )

      gave_up : incremental ≡ false → c.first < c3.first → (t j : ℕ) → c.first < t → t < c.past → j < c.len c.first → c.share t j ≡ Lost → (c.first < c2.first) ⊎ (c2.first ≤ c.first)
          → c3.status t ≡ ABORTED
      gave_up e on t j l m k lost (inl early) = b.aborted t (a.gave_up e early t j l m k lost)
      gave_up e on t j l m k lost (inr late) =
          let root = same_root a.lasts.first late in
          b.gave_up e (omega (arith, on, root)) t j (omega (arith, l, root)) (let p = a.lasts.past in omega (arith, m, p)) (subst (λ (n : ℕ). j < n) (sym (root_len t l m root)) k) (a.lost t j lost)

      root_stays : (t j : ℕ) → c.first < t → t < c.past → j < c.len c.first → is_of_caller i (c.share t j) ≡ true → (c2.first ≡ c.first) ⊎ ((incremental ≡ false) × (c2.status t ≡ ABORTED))
          → (c3.first ≡ c.first) ⊎ ((incremental ≡ false) × (c3.status t ≡ ABORTED))
      root_stays t j l m k own (inr gone) = inr (gone.0, b.aborted t gone.1)
      root_stays t j l m k own (inl root) = elim (b.root_stays t j (omega (arith, l, root)) (let p = a.lasts.past in omega (arith, m, p)) (subst (λ (n : ℕ). j < n) (sym (root_len t l m root)) k) (ap (is_of_caller i) (a.mine t j own) ∙ own)) as (λ _. (c3.first ≡ c.first) ⊎ ((incremental ≡ false) × (c3.status t ≡ ABORTED))) [
        | inl again ↦ inl (again ∙ root)
        | inr gone ↦ inr gone
      ]

      my_place : incremental ≡ true → (j n : ℕ) (borrowed : Bool) → suc c.first < c.past → j < c.len c.first → c.share (suc c.first) j ≡ Claimed i → c.place c.first j ≡ Holds n Copying borrowed
          → (c2.place c.first j ≡ Holds n Copying borrowed) × LiesAlike same spot incremental c c2 n → (c3.place c.first j ≡ Holds n Copying borrowed) × LiesAlike same spot incremental c c3 n
      my_place e j n borrowed next k own here first =
          let mine : is_of_caller i (c.share (suc c.first) j) ≡ true = ap (is_of_caller i) own ∙ eq-eqb i i refl in
          let root = root_is e (a.root_stays (suc c.first) j (omega arith) next k mine) in
          let own2 : c2.share (suc c2.first) j ≡ Claimed i = ap (λ (t : ℕ). c2.share (suc t) j) root ∙ a.mine (suc c.first) j mine ∙ own in
          let more = b.my_place e j n borrowed (let p = a.lasts.past in omega (arith, next, root, p)) (subst (λ (m : ℕ). j < m) (sym (root_len (suc c.first) (omega arith) next root)) k) own2
          (ap (λ (t : ℕ). c2.place t j) root ∙ first.0) in (
            ap (λ (t : ℕ). c3.place t j) (sym root) ∙ more.0,
            λ t p l. (
              (λ phase x at. (first.1 t p l).0 phase x ((more.1 t p (omega (arith, l, root))).0 phase x at)),
              (λ x at. (more.1 t p (omega (arith, l, root))).1 x ((first.1 t p l).1 x at)),
            ),
          )
        where
          root_is : incremental ≡ true → (c2.first ≡ c.first) ⊎ ((incremental ≡ false) × (c2.status (suc c.first) ≡ ABORTED)) → c2.first ≡ c.first
          root_is e (inl is) = is
          root_is e (inr other) = absurd (let f = other.0 in cc (e, f))

  -- where no step was taken
  pub leaves_same : (i : ℕ) (c : Chart K) → Leaves same spot incremental i c c
  leaves_same i c = record {
    lasts = record {
      past = omega arith;
      first = omega arith;
      lens = λ t l. (refl, refl);
      stored = omega arith;
      keys = λ n l. refl;
      taken = λ t p e. e;
      others = λ t p k e f. f;
      copied = λ t p n borrowed e. e;
      settled = λ t p e. e;
      shut = λ t k e l s. s;
      frozen = λ t p e m. refl;
    };
    remembers = record { now = omega arith; was = λ m k. refl; passed = λ t k. refl; leaves = λ t k m. absurd (omega (arith, k, m)); from = λ t k. refl };
    gone = λ n l e. e;
    unnamed = λ e n l left t p phase borrowed at. (phase, at);
    aborted = λ t e. e;
    promoted = λ t e. e;
    spared = λ t l not. not;
    claims = λ e t. omega arith;
    goes_on = λ e on t l m. absurd (omega (arith, on));
    mine = λ t j own. refl;
    mine_before = λ t j own. refl;
    root_stays = λ t j l m k own. inl refl;
    my_place = λ e j n borrowed next k own here. (here, λ t p l. ((λ phase x at. at), (λ x at. at)));
    gave_up = λ e on t j l m k lost. absurd (omega (arith, on));
    counted = λ t j e. e;
    lost = λ t j e. e;
  }
