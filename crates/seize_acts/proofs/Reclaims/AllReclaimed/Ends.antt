-- All slots are given up: what the whole calls have come to, and how what is behind the roots stands then.
use Rattle.std.specs.Prelude.{Option, Some, slice_get, IsSome}
use Rattle.std.proofs.Common.{◌≡◌, ℕ, suc, ◌+◌, ◌<◌, Bool, List, [], ◌∷◌, ◌++◌, refl, arith, ap, sym, subst, ◌∙◌}
use Rattle.std.proofs.lemmas.List.{append_cancel_left}
use Rattle.seize_words.specs.OneMemory.Word.{block_in}
use Rattle.seize_words.specs.declared.at.At.TheVariants.{Root}
use Rattle.seize_words.specs.OneMemory.Mem.{Mem, word_at}
use Rattle.seize.specs.declared.states.TheConstants.{LAST_SLOT}
use Rattle.seize.specs.Further.{ListFrom}
use Rattle.seize.specs.WaitingSets.{Sets, After, at_start as sets_at_start}
use Rattle.seize.specs.World.{World, LeftTo, times, at_start}
use Rattle.seize.specs.Sequence.{taken_in}
use Rattle.seize_model.specs.Sets.Reclaims.{Reclaims}
use Rattle.seize_model.specs.Alone.Alone.{History, at_rest}
use Rattle.seize_acts.specs.Reclaims.AllReclaimed.{OnlyReclaims, MayReclaimAll, SlotsReclaimed, all, sets_in}
use Rattle.seize_acts.specs.Reclaims.Roots.{LeadsTo, LeftAt, all_lists}
use Rattle.seize_model.proofs.Given.SeizeRuleWorld.Rested.{start_rested}
use Rattle.seize_model.proofs.Sets.Reclaims.Ends.{Left, all_left_so}
use Rattle.seize_model.proofs.Sets.Reclaims.NeverTaken.{NonePast, turns_past}
use Rattle.seize_model.proofs.Sets.Turns.All.{turns_shown, start_shown, changed_then}
use Rattle.seize_model.proofs.Sets.Turns.Append.{turns_append}
use Rattle.seize_model.proofs.Sets.Turns.Begins.{Shown}
use Rattle.seize_acts.proofs.Reclaims.AllReclaimed.Only.{known_value, known_hand, left_known}
use Rattle.seize_acts.proofs.Reclaims.Roots.Listed.{times_append, times_here, lists_split}

module _ {T : Type 0} (defers : T → Option ℕ) (left_over : T → Bool) (batch_size roots : ℕ) (m : Mem T) (h : History) (lists : ℕ → List ℕ)
    (may : MayReclaimAll defers left_over batch_size roots m h lists) where
  abbrev w : World T
  w = at_rest defers m h

  abbrev sets : Sets
  sets = sets_in batch_size h

  pub shown : Shown defers (LAST_SLOT + 1) batch_size w sets
  shown =
      turns_shown defers (LAST_SLOT + 1) batch_size refl may.size may.happened.0 (at_start defers roots) w h.before sets_at_start
      (start_shown defers (LAST_SLOT + 1) batch_size refl may.size roots) may.happened.1

  past : NonePast (LAST_SLOT + 1) batch_size sets
  past =
      turns_past defers (LAST_SLOT + 1) batch_size refl may.size may.happened.0 (at_start defers roots) w h.before sets_at_start (start_rested defers (LAST_SLOT + 1) batch_size refl roots) may.happened.1
      (λ s l. refl)

  module _ (m1 : Mem T) (h1 : History) (back : List ℕ) (only : OnlyReclaims m h m1 h1 back) where
    -- a block of a list behind a root
    in_all : (r b : ℕ) → r < roots → 0 < times b (lists r) → 0 < times b (all_lists lists roots)
    in_all r b lt some =
        let s = lists_split lists (suc r) roots lt in
        let e = ap (times b) s.1 in
        let e2 = times_append b (all_lists lists r ++ lists r) s.0 in
        let e3 = times_append b (all_lists lists r) (lists r) in
        omega (arith, some, e, e2, e3)

    list_now : (word : ℕ) (l : List ℕ) → ((b : ℕ) → 0 < times b l → h.hand b ≡ LeftTo 0) → ListFrom m word l → ListFrom m1 word l
    list_now word [] mine k = k
    list_now word (b ∷ l) mine k = (
      k.0,
      k.1,
      k.2,
      only.links b (mine b (let e = times_here b l in omega (arith, e))) ∙ k.3,
      list_now k.0 l (λ x some. mine x (omega (arith, some))) k.4,
    )

    -- the same lists are behind the roots
    pub left_now : LeftAt left_over m1 h1 roots lists
    left_now = record {
      root = λ r lt. let k = may.left.root r lt in (k.0, ap (λ (l : List ℕ). slice_get l r) only.spares.roots ∙ k.1, leads r lt k.0 k.1 (lists r) refl k.2);
      used = λ r lt. subst (λ (o : Option ℕ). IsSome o) (sym (ap (λ (l : List ℕ). slice_get l r) only.spares.used)) (may.left.used r lt);
      left = λ b some. let e = may.left.left b some in known_hand m m1 h h1 back only b (left_known m m1 h h1 back only b e) ∙ e;
      once = may.left.once;
    }
      where
        leads : (r : ℕ) → r < roots → (word : ℕ) → word_at m (Root r) ≡ Some word → (l : List ℕ) → lists r ≡ l → LeadsTo left_over m h word l → LeadsTo left_over m1 h1 word l
        leads r lt word is [] e k = λ some.
            let v = k some in
            let known = may.living r word lt e is some in (
              v.0,
              known_value m m1 h h1 back only (block_in word) known ∙ v.1,
              v.2,
              λ q. v.3 (sym (known_hand m m1 h h1 back only (block_in word) known) ∙ q),
            )
        leads r lt word is (b ∷ l) e k =
            let mine : (x : ℕ) → 0 < times x (b ∷ l) → h.hand x ≡ LeftTo 0 = λ x some. may.left.left x (in_all r x lt (subst (λ (u : List ℕ). 0 < times x u) (sym e) some)) in
            let first = left_known m m1 h h1 back only b (mine b (let q = times_here b l in omega (arith, q))) in
            ((k.0.0, known_value m m1 h h1 back only b first ∙ k.0.1, k.0.2), list_now word (b ∷ l) mine k.1)

    -- the calls are a list of what reclaiming all does
    module _ (taken : taken_in h1.log ≡ taken_in h.log ++ back) (r : Reclaims defers batch_size 0 w (at_rest defers m1 h1)) where
      pub ended : Left defers (LAST_SLOT + 1) batch_size refl may.size 0 w (at_rest defers m1 h1) sets
      ended = all_left_so defers (LAST_SLOT + 1) batch_size refl may.size 0 w (at_rest defers m1 h1) sets shown past r

      -- what has happened, as turns of the model say it
      abbrev pub between : History
      between = record { before = h.before ++ ended.came.made; uses = h1.uses; hand = h1.hand; log = h1.log }

      pub back_is : back ≡ (all defers left_over batch_size roots m h).reclaimed
      back_is = append_cancel_left (taken_in h.log) back (all defers left_over batch_size roots m h).reclaimed (sym taken ∙ ended.came.taken)

      pub slots : SlotsReclaimed defers left_over batch_size roots m h m1 between
      slots = record {
        happened = (
          may.happened.0 ++ ended.came.turns,
          turns_append defers batch_size may.happened.0 ended.came.turns (at_start defers roots) w (at_rest defers m1 h1) h.before ended.came.made may.happened.1 ended.came.took,
        );
        sets = changed_then defers (LAST_SLOT + 1) batch_size refl may.size h.before ended.came.made sets_at_start ∙ ap (λ (a : After). a.sets) ended.came.comes;
        only = subst (λ (l : List ℕ). OnlyReclaims m h m1 between l) back_is
            (record { spares = only.spares; gone = only.gone; links = only.links; hands = only.hands; known = only.known });
        vacant = ended.vacant;
        waits = ended.waits;
        retired = ended.retired;
      }
