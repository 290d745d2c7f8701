-- A making takes a root that is free, or looks at the next one; and it gives its root up where it is refused.
use Rattle.std.specs.Prelude.{◌≡◌, ◌≢◌, ℕ, ◌+◌, ◌-◌, ◌<◌, Bool, true, false, cond, nat_lt, [], ◌∷◌, Some, Ok, IsSome, if◌then◌else◌}
use Rattle.std.proofs.Common.{refl, ap, sym, subst, ◌∙◌, inl, inr, arith, ◌⊎◌}
use Rattle.std.proofs.lemmas.Bool.{cases_eq, eq-eqb, ne_eqb}
use Rattle.many_calls.specs.Given.SeizeWordsDeclared.at.At.TheVariants.{Root, Used}
use Rattle.many_calls.specs.Given.SeizeWordsDeclared.fault.Fault.{Fault}
use Rattle.many_calls.specs.Given.SeizeWordsDeclared.fault.Fault.TheVariants.{RootsUsedUp}
use Rattle.many_calls.specs.Given.SeizeWordsOp.{Op, Out, Store, Exchange, Stored, Exchanged}
use Rattle.many_calls.specs.Given.SeizeWordsMem.{Mem, value_at, word_at, with_word, Can, Took}
use Rattle.many_calls.specs.Given.SeizeWordsPlan.{Now, May, Steps}
use Rattle.many_calls.proofs.Given.SeizeWordsOneOwner.AfterWrites.{word_at-with_word}
use Rattle.many_calls.proofs.Given.SeizeWordsOneOwner.Operations.{may_exchange, exchanged, may_store, stored}
use Rattle.many_calls.specs.Given.SeizeWorld.{World, Operates, IsOwnOp}
use Rattle.many_calls.specs.Given.SeizeDeclared.advance.Advance.{Advance}
use Rattle.many_calls.specs.Given.SeizeDeclared.advance.Advance.TheVariants as progress
use Rattle.many_calls.specs.Given.TablesNodes.{deferred_word}
use Rattle.many_calls.specs.Given.TablesDeclared.node.Node.{Node}
use Rattle.many_calls.specs.Given.TablesDeclared.setting.Setting.{Setting}
use Rattle.many_calls.specs.Given.ResizeNewMap.{at_root, next_root, taken, takes, refused, frees}
use Rattle.many_calls.specs.Given.ResizeDeclared.new_map.NewMap.{NewMap}
use Rattle.many_calls.specs.Given.ResizeDeclared.new_map.Opening.{Opening}
use Rattle.many_calls.specs.Given.ResizeDeclared.new_map.Opening.TheVariants as at
use Rattle.many_calls.proofs.Given.RuleWorld.OthersSpared.{keeps_written}
use Rattle.many_maps.specs.Makings.{Beginning, HasTaken, HasMade, HasRoots, OpeningFacts, MakingFacts, PreservesItsOwn, HasComeTo}
use Rattle.many_maps.proofs.Beside.Makings.Leaves.{IsItsRoot, LeavesOthers}
use Rattle.many_maps.proofs.Beside.Makings.Went.{GoesTo, MakingWent, facts_at, still}
use Rattle.many_calls.proofs.Given.General.{some_is as is_some_of}

module _ {K Q : Type 0} (V : Type 0) (same : K → K → Bool) (asks : Q → K → Bool) (batch_size roots : ℕ) (slot : ℕ → ℕ) (w : World (Node K V)) (i : ℕ) (b : Beginning K)
    (f : MakingFacts w same batch_size roots i b) (free : HasRoots w roots) where
  abbrev n : NewMap
  n = b.machine

  abbrev root : ℕ
  root = b.machine.setting.root

  -- whether its root is taken is written
  module _ (new : ℕ) (some : IsSome (word_at w.memory (Used b.machine.setting.root))) where
    abbrev written : World (Node K V)
    written = record w { memory = with_word w.memory (Used b.machine.setting.root) new }

    used_written : word_at written.memory (Used b.machine.setting.root) ≡ Some new
    used_written = word_at-with_word w.memory (Used root) new (Used root) some ∙ ap (λ q. cond q (Some new) (word_at w.memory (Used root))) (eq-eqb root root refl)

    used_kept : (r : ℕ) → r ≢ b.machine.setting.root → word_at written.memory (Used r) ≡ word_at w.memory (Used r)
    used_kept r other = word_at-with_word w.memory (Used root) new (Used r) some ∙ ap (λ q. cond q (Some new) (word_at w.memory (Used r))) (ne_eqb r root other)

    left_written : (op : Op (Node K V)) (out : Out (Node K V)) → IsOwnOp deferred_word w.memory op → Took w.memory op out (with_word w.memory (Used b.machine.setting.root) new)
        → (new ≡ 0 → word_at w.memory (Root b.machine.setting.root) ≡ Some 0)
        → (word_at w.memory (Used b.machine.setting.root) ≡ Some 1 → (IsItsRoot i b.machine w b.machine.setting.root → ⊥) → new ≡ 1) → LeavesOthers i b.machine w written batch_size roots
    left_written op out own took leads as_was = record {
      events = Operates op ∷ [];
      users = (tt, tt);
      runs = (written, (out, with_word w.memory (Used root) new, own, took, refl), refl);
      blocks = λ x value there other. record { value = refl; words = λ field word is. is; hand = refl; owner = refl; orphan = refl; over = refl; place = refl; link = λ word apart is. is };
      root = λ r word is other. is;
      used = used_then;
      free = free_then;
      own = λ j other. keeps_written i w j other (Used root) new some tt;
    }
      where
        used_then : (r : ℕ) → word_at w.memory (Used r) ≡ Some 1 → (IsItsRoot i b.machine w r → ⊥) → word_at written.memory (Used r) ≡ Some 1
        used_then r is other = elim (cases_eq r b.machine.setting.root) as (λ _. word_at written.memory (Used r) ≡ Some 1) [
          | inl e ↦ subst (λ (x : ℕ). word_at written.memory (Used x) ≡ Some 1) (sym e)
              (used_written ∙ ap Some (as_was (subst (λ (x : ℕ). word_at w.memory (Used x) ≡ Some 1) e is) (λ its. other (its.0, e))))
          | inr ne ↦ used_kept r ne ∙ is
        ]

        free_then : HasRoots written roots
        free_then r l = elim (cases_eq r b.machine.setting.root) as (λ _. (used : ℕ) × (word_at written.memory (Used r) ≡ Some used) × (used ≡ 0 → word_at written.memory (Root r) ≡ Some 0)) [
          | inl e ↦ subst (λ (x : ℕ). (used : ℕ) × (word_at written.memory (Used x) ≡ Some used) × (used ≡ 0 → word_at written.memory (Root x) ≡ Some 0)) (sym e) (new, used_written, leads)
          | inr ne ↦ (let h = free r l in (h.0, used_kept r ne ∙ h.1, h.2))
        ]

  -- a root is taken, or the next one is to be
  module _ (here : b.machine.stands ≡ at.Takes) (point : b.machine.setting.root < roots) where
    there : IsSome (word_at w.memory (Used b.machine.setting.root))
    there = let h = free root point in is_some_of (word_at w.memory (Used root)) h.0 h.1

    pub may_takes : May Can Took value_at w.memory (takes {T = Node K V} b.machine)
    may_takes = may_exchange w.memory (taken n) (Used root) 0 1 there (λ x is. tt) (λ x is. tt)

    next_told : GoesTo V same asks batch_size roots slot w i b w (next_root b.machine)
    next_told = by (nat_lt root (b.machine.roots - 1)) refl
      where
        below : (r many : ℕ) → nat_lt r (many - 1) ≡ true → r + 1 < many
        below r many e = grind arith

        by : (q : Bool) → nat_lt b.machine.setting.root (b.machine.roots - 1) ≡ q
            → GoesTo V same asks batch_size roots slot w i b w (if q then (record b.machine { setting = at_root b.machine.setting (b.machine.setting.root + 1) }, progress.Goes) else refused b.machine RootsUsedUp)
        by true e = (
          facts_at V same asks batch_size roots slot w i b f free w (record b.machine { setting = at_root b.machine.setting (b.machine.setting.root + 1) })
              (ap (λ (s : Setting). at_root s (b.machine.setting.root + 1)) f.setting_is) refl refl
              (subst (λ (o : Opening). OpeningFacts w roots i (record b.machine { setting = at_root b.machine.setting (b.machine.setting.root + 1) }) o) (sym here)
              (subst (λ (x : ℕ). b.machine.setting.root + 1 < x) f.roots_are (below b.machine.setting.root b.machine.roots e))),
          λ has. absurd (subst HasTaken here has),
          λ made. absurd (subst HasMade here made),
        )
        by false e = tt

    -- it has nothing yet
    not_taken : HasTaken b.machine.stands → ⊥
    not_taken has = subst HasTaken here has

    not_made : HasMade b.machine.stands → ⊥
    not_made made = subst HasMade here made

    next_keeps : PreservesItsOwn V same asks batch_size roots slot w w b.machine (next_root b.machine)
    next_keeps = by (nat_lt root (b.machine.roots - 1))
      where
        by : (q : Bool) → PreservesItsOwn V same asks batch_size roots slot w w b.machine
            (if q then (record b.machine { setting = at_root b.machine.setting (b.machine.setting.root + 1) }, progress.Goes) else refused b.machine RootsUsedUp)
        by true = (λ has. absurd (not_taken has), λ made. absurd (not_made made))
        by false = (λ has. absurd (not_taken has), λ made. absurd (not_made made), λ none. refl)

    free_root : word_at w.memory (Used b.machine.setting.root) ≡ Some 0 → word_at w.memory (Root b.machine.setting.root) ≡ Some 0
    free_root read = let h = free root point in h.2 (let is = h.1 in cc (is, read))

    pub went_takes : (m2 : Mem (Node K V)) (end : NewMap × Advance Setting) → Steps Took value_at w.memory (takes b.machine) m2 end → MakingWent V same asks batch_size roots slot w i b m2 end
    went_takes m2 end s =
        elim (exchanged w.memory (taken n) (Used root) 0 1 m2 end s) as (λ _. MakingWent V same asks batch_size roots slot w i b m2 end) [
          | inl d ↦ (let read : word_at w.memory (Used b.machine.setting.root) ≡ Some 0 = d.1.0 ∙ ap Some d.1.1 in record {
            w2 = written 1 there;
            memory = sym d.2;
            left = left_written 1 there (Exchange (Used root) 0 1) (Exchanged (Ok d.0)) tt (d.1, refl) (λ e. absurd (omega (arith, e))) (λ was other. refl);
            keeps = subst (PreservesItsOwn V same asks batch_size roots slot w (written 1 there) b.machine) (sym d.3) (λ has. absurd (not_taken has), λ made. absurd (not_made made));
            unused = λ r is. (elim (cases_eq r b.machine.setting.root) as (λ _. (word_at (written 1 there).memory (Used r) ≡ Some 0) ⊎ HasComeTo {Q = Q} V same asks batch_size roots slot end r) [
              | inl e ↦ inr (subst (λ (x : NewMap × Advance Setting). HasComeTo {Q = Q} V same asks batch_size roots slot x r) (sym d.3) (tt, sym e))
              | inr ne ↦ inl (used_kept 1 there r ne ∙ is)
            ]);
            links = λ x out. inl out;
            told = subst (GoesTo V same asks batch_size roots slot w i b (written 1 there)) (sym d.3) (
              facts_at V same asks batch_size roots slot w i b f free (written 1 there) (record b.machine { stands = at.Shards }) f.setting_is refl refl (used_written 1 there, free_root read),
              λ has. inr read,
              λ made. absurd made,
            );
          })
          | inr d ↦ still V same asks batch_size roots slot w i b f free m2 d.2 end (next_root b.machine) d.3 next_keeps next_told
        ]

  -- the root is given up
  module _ (fault : Fault) (here : b.machine.stands ≡ at.Frees fault) (point : OpeningFacts w roots i b.machine (at.Frees fault)) where
    taken_there : IsSome (word_at w.memory (Used b.machine.setting.root))
    taken_there = is_some_of (word_at w.memory (Used root)) 1 point.0

    pub may_frees : May Can Took value_at w.memory (frees {T = Node K V} b.machine fault)
    may_frees = may_store w.memory (λ out. Now (refused n fault)) (Used root) 0 taken_there tt

    pub went_frees : (m2 : Mem (Node K V)) (end : NewMap × Advance Setting) → Steps Took value_at w.memory (frees b.machine fault) m2 end → MakingWent V same asks batch_size roots slot w i b m2 end
    went_frees m2 end s =
        let d = stored w.memory (λ out. Now (refused n fault)) (Used root) 0 m2 end s in
        record {
          w2 = written 0 taken_there;
          memory = sym d.0;
          left = left_written 0 taken_there (Store (Used root) 0) Stored tt (tt, refl) (λ e. point.1) (λ was other. absurd (other (subst HasTaken (sym here) tt, refl)));
          keeps = subst (PreservesItsOwn V same asks batch_size roots slot w (written 0 taken_there) b.machine) (sym d.1)
              (λ has. (used_written 0 taken_there, point.1), λ made. absurd (subst HasMade here made), λ none. absurd (none (subst HasTaken (sym here) tt)));
          unused = λ r is. (elim (cases_eq r b.machine.setting.root) as (λ _. (word_at (written 0 taken_there).memory (Used r) ≡ Some 0) ⊎ HasComeTo {Q = Q} V same asks batch_size roots slot end r) [
            | inl e ↦ inl (subst (λ (x : ℕ). word_at (written 0 taken_there).memory (Used x) ≡ Some 0) (sym e) (used_written 0 taken_there))
            | inr ne ↦ inl (used_kept 0 taken_there r ne ∙ is)
          ]);
          links = λ x out. inl out;
          told = subst (GoesTo V same asks batch_size roots slot w i b (written 0 taken_there)) (sym d.1) tt;
        }
