-- A block is made, or put on another's list; and writes to blocks' own words that the collector doesn't read.
use Rattle.std.specs.Prelude.{Option, Some, None, is_some, ◌&&◌}
use Rattle.std.proofs.Common.{◌≡◌, ℕ, ◌<◌, Bool, true, false, cond, eqb, [], ◌∷◌, refl, arith, subst, sym, eqb-true}
use Rattle.seize_moves.proofs.Moves.State.Ghost.{put, State, Life, IsFree, IsOwned, IsLinked, IsUnlinked, IsDeferring, IsDeferred, IsPending, IsIn, IsDoomed, IsLeft}
use Rattle.seize_moves.proofs.Moves.State.Moves.{made, deferred_to}
use Rattle.seize_moves.proofs.Memory.Words.Named.{link}
use Rattle.seize_moves.proofs.Memory.Words.Chains.{Chain}
use Rattle.seize_moves.proofs.Memory.Words.View.{View, put_own}
use Rattle.seize_moves.proofs.Memory.Words.Shows.{Extra, Shows, Written, DeferredIs, NextIs, DrainedIs, CarrierIs, lives, has_own}
use Rattle.seize_moves.proofs.Memory.Written.Blocks.{entries_early, linkage_early, drains_early, nexts_at, lived_same, carriers_same}
use Rattle.seize_moves.proofs.Moves.State.Sums.{put_one}

-- a word of a block that is no other row's
own_kept : (j t d w a e : ℕ) (f : View) (m : State) → (has_own j (m.life t) ≡ true → ⊥) → has_own j (m.life a) ≡ true → put_own f.own t d w a e ≡ f.own a e
own_kept j t d w a e f m none k = at (eqb a t) (eqb-true a t)
  where
    at : (q : Bool) → (q ≡ true → a ≡ t) → cond (q && eqb e d) w (f.own a e) ≡ f.own a e
    at true same = absurd (none (subst (λ (r : ℕ). has_own j (m.life r) ≡ true) (same refl) k))
    at false same = refl

-- what is seen with a new block
abbrev pub with_new : View → ℕ → Option ℕ → View
with_new f b o = record f { live = put f.live b true; lists = put f.lists b o }

pub made_written : (n i b : ℕ) (o : Option ℕ) (f : View) (m : State) (x : Extra) → Shows n f m x → m.life b ≡ IsFree → ((d : ℕ) → f.own b d ≡ 0)
    → m.deferred b ≡ [] → Written n i f m x (with_new f b o) (made m i b (is_some o)) x
made_written n i b o f m x v is blank none = record {
  shows = record {
    entries = entries_early f m x b (IsOwned i) (rw is refl) v.entries;
    linkage = linkage_early n f m x b (IsOwned i) (rw is refl) refl v.linkage;
    lists = record {
      pended = v.lists.pended;
      lefted = v.lists.lefted;
      putted = v.lists.putted;
      deferring = put_one (λ t q. DeferredIs f.nexts (f.own t) q (x.drained t) (m.deferred t)) f.lists b o (begins o (x.drained b) (undrained (m.life b) is (v.lists.drains b))) v.lists.deferring;
      nexted = λ c. nexts_at m.life b (IsOwned i) f.nexts c (zero_next (m.life b) is (v.lists.nexted b)) (v.lists.nexted c);
      drains = λ c. drains_early m.life b (IsOwned i) (x.drained c) c (rw is refl) (v.lists.drains c);
      lived = λ c. lived c (v.lists.lived c);
      carriers = λ c. carriers c (v.lists.carriers c);
    };
  };
  keeps = record {
    rows = λ j ne. record { hand = refl; pends = refl; popped = refl; lefts = refl; put_first = refl };
    batches = λ j y ne k. record { rest = refl; aimed = refl; behind = refl };
    nexts = λ j a ne k. refl;
    firsts = λ j a ne k. refl;
    links = λ j a ne k. refl;
    spots = λ j a ne k. refl;
    owns = λ j a ne k. record { own = λ d has. refl; lists = kept j a k; drained = refl };
  };
}
  where
    undrained : (l : Life) → l ≡ IsFree → DrainedIs l (x.drained b) → x.drained b ≡ false
    undrained l e h = grind arith

    zero_next : (l : Life) → l ≡ IsFree → NextIs (f.nexts b) l → f.nexts b ≡ 0
    zero_next l e h = grind arith

    begins : (o : Option ℕ) (q : Bool) → q ≡ false → DeferredIs f.nexts (f.own b) o q (m.deferred b)
    begins None q e = tt
    begins (Some d) true e = tt
    begins (Some d) false e = rw none (blank d)

    lived : (c : ℕ) → f.live c ≡ lives (m.life c) → put f.live b true c ≡ lives (put m.life b (IsOwned i) c)
    lived c h = grind arith

    carriers : (c : ℕ) → CarrierIs (m.life c) (m.carrier c) (f.lists c) → CarrierIs (put m.life b (IsOwned i) c) (put m.carrier b (is_some o) c) (put f.lists b o c)
    carriers c h = at (eqb c b)
      where
        at : (t : Bool) → CarrierIs (cond t (IsOwned i) (m.life c)) (cond t (is_some o) (m.carrier c)) (cond t o (f.lists c))
        at true = refl
        at false = h

    kept : (j a : ℕ) → has_own j (m.life a) ≡ true → put f.lists b o a ≡ f.lists a
    kept j a k = at (eqb a b) (eqb-true a b)
      where
        free : (l : Life) → l ≡ IsFree → has_own j l ≡ true → ⊥
        free l e h = grind arith

        at : (t : Bool) → (t ≡ true → a ≡ b) → cond t o (f.lists a) ≡ f.lists a
        at true e = absurd (free (m.life a) (subst (λ (q : ℕ). m.life q ≡ IsFree) (sym (e refl)) is) k)
        at false e = refl

-- the link of block b goes in front of the list of block t
pub deferred_to_written : (n i s b t d : ℕ) (f : View) (m : State) (x : Extra) → Shows n f m x → m.life b ≡ IsDeferring i s t → f.lists t ≡ Some d
    → ((j : ℕ) → has_own j (m.life t) ≡ true → ⊥) → ((j : ℕ) → m.life t ≡ IsLeft j → ⊥) → f.nexts b ≡ f.own t d → 0 < b
    → Written n i f m x (record f { own = put_own f.own t d (link b) }) (deferred_to m i b t) x
deferred_to_written n i s b t d f m x v is has no_one not_left linked some = record {
  shows = record {
    entries = entries_early f m x b (IsDeferred t) (rw is refl) v.entries;
    linkage = linkage_early n f m x b (IsDeferred t) (rw is refl) refl v.linkage;
    lists = record {
      pended = v.lists.pended;
      lefted = v.lists.lefted;
      putted = v.lists.putted;
      deferring = λ u. deferring u (eqb u t) refl (eqb-true u t);
      nexted = λ c. nexts_at m.life b (IsDeferred t) f.nexts c tt (v.lists.nexted c);
      drains = λ c. drains_early m.life b (IsDeferred t) (x.drained c) c (rw is refl) (v.lists.drains c);
      lived = λ c. lived_same m.life b (IsDeferred t) (f.live c) c (rw is refl) (v.lists.lived c);
      carriers = λ c. carriers_same m.life b (IsDeferred t) (m.carrier c) (f.lists c) c (rw is refl) (v.lists.carriers c);
    };
  };
  keeps = record {
    rows = λ j ne. record { hand = refl; pends = refl; popped = refl; lefts = refl; put_first = refl };
    batches = λ j y ne k. record { rest = refl; aimed = refl; behind = refl };
    nexts = λ j a ne k. refl;
    firsts = λ j a ne k. refl;
    links = λ j a ne k. refl;
    spots = λ j a ne k. refl;
    owns = λ j a ne k. record { own = λ e has. own_kept j t d (link b) a e f m (no_one j) k; lists = refl; drained = refl };
  };
}
  where
    undrained : (l : Life) → ((j : ℕ) → has_own j l ≡ true → ⊥) → ((j : ℕ) → l ≡ IsLeft j → ⊥) → DrainedIs l (x.drained t) → x.drained t ≡ false
    undrained (IsLeft j) free left h = absurd (left j refl)
    undrained (IsDoomed j) free left h = absurd (free j (grind arith))
    undrained IsFree free left h = h
    undrained (IsOwned j) free left h = h
    undrained IsLinked free left h = h
    undrained (IsUnlinked j) free left h = h
    undrained (IsDeferring j s u) free left h = h
    undrained (IsDeferred u) free left h = h
    undrained (IsPending j) free left h = h
    undrained (IsIn y) free left h = h

    begins : (q : Bool) → q ≡ false → DeferredIs f.nexts (f.own t) (Some d) q (m.deferred t) → DeferredIs f.nexts (λ e. cond (eqb e d) (link b) (f.own t e)) (Some d) q (b ∷ m.deferred t)
    begins true e h = absurd (cc)
    begins false e h = (some, grind arith, subst (λ (w : ℕ). Chain 0 f.nexts w (m.deferred t)) (sym linked) h)

    deferring : (u : ℕ) (q : Bool) → eqb u t ≡ q → (q ≡ true → u ≡ t)
        → DeferredIs f.nexts (λ e. cond (q && eqb e d) (link b) (f.own u e)) (f.lists u) (x.drained u) (cond q (b ∷ m.deferred t) (m.deferred u))
    deferring u true e same =
        subst (λ (a : ℕ). DeferredIs f.nexts (λ e. cond (eqb e d) (link b) (f.own a e)) (f.lists a) (x.drained a) (b ∷ m.deferred t)) (sym (same refl))
        (rw has (begins (x.drained t) (undrained (m.life t) no_one not_left (v.lists.drains t)) (rw has at (v.lists.deferring t))))
    deferring u false e same = v.lists.deferring u

-- a word that no list begins with
pub own_written : (n i t d w : ℕ) (f : View) (m : State) (x : Extra) → Shows n f m x → (f.lists t ≡ Some d → ⊥)
    → Written n i f m x (record f { own = put_own f.own t d w }) m x
own_written n i t d w f m x v other = record {
  shows = record {
    entries = v.entries;
    linkage = v.linkage;
    lists = record {
      pended = v.lists.pended;
      lefted = v.lists.lefted;
      putted = v.lists.putted;
      deferring = λ u. deferring u (eqb u t) (eqb-true u t);
      nexted = v.lists.nexted;
      drains = v.lists.drains;
      lived = v.lists.lived;
      carriers = v.lists.carriers;
    };
  };
  keeps = record {
    rows = λ j ne. record { hand = refl; pends = refl; popped = refl; lefts = refl; put_first = refl };
    batches = λ j y ne k. record { rest = refl; aimed = refl; behind = refl };
    nexts = λ j a ne k. refl;
    firsts = λ j a ne k. refl;
    links = λ j a ne k. refl;
    spots = λ j a ne k. refl;
    owns = λ j a ne k. record { own = λ e has. word_kept a e has; lists = refl; drained = refl };
  };
}
  where
    apart : (u : ℕ) (o : Option ℕ) (q : Bool) → f.lists t ≡ o → DeferredIs f.nexts (f.own u) o q (m.deferred u) → DeferredIs f.nexts (λ e. cond (eqb e d) w (f.own u e)) o q (m.deferred u)
    apart u None q is h = tt
    apart u (Some e) true is h = tt
    apart u (Some e) false is h = subst (λ (k : ℕ). Chain 0 f.nexts k (m.deferred u)) (sym (same (eqb e d) (eqb-true e d))) h
      where
        same : (p : Bool) → (p ≡ true → e ≡ d) → cond p w (f.own u e) ≡ f.own u e
        same true k = absurd (let r = k refl in other (cc))
        same false k = refl

    word_kept : (a e : ℕ) → f.lists a ≡ Some e → put_own f.own t d w a e ≡ f.own a e
    word_kept a e has = at (eqb a t) (eqb e d) (eqb-true a t) (eqb-true e d)
      where
        at : (p q : Bool) → (p ≡ true → a ≡ t) → (q ≡ true → e ≡ d) → cond (p && q) w (f.own a e) ≡ f.own a e
        at true true same_block same_word = absurd (let r = same_block refl in let s = same_word refl in other (cc))
        at true false same_block same_word = refl
        at false q same_block same_word = refl

    deferring : (u : ℕ) (q : Bool) → (q ≡ true → u ≡ t) → DeferredIs f.nexts (λ e. cond (q && eqb e d) w (f.own u e)) (f.lists u) (x.drained u) (m.deferred u)
    deferring u true same = apart u (f.lists u) (x.drained u) (ap_lists (same refl)) (v.lists.deferring u)
      where
        ap_lists : u ≡ t → f.lists t ≡ f.lists u
        ap_lists e = cc
    deferring u false same = v.lists.deferring u
