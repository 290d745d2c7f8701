-- A map that begins takes a root, and gives it up where it is refused.
use Rattle.std.specs.Prelude.{◌≡◌, ℕ, ◌+◌, ◌-◌, ◌<◌, Bool, true, false, cond, nat_lt, [], ◌∷◌, Some, Ok, IsSome, if◌then◌else◌}
use Rattle.std.proofs.Common.{refl, ap, sym, subst, ◌∙◌, inl, inr, arith}
use Rattle.std.proofs.lemmas.Bool.{eq-eqb, ne_eqb}
use Rattle.many_maps.specs.Given.SeizeWordsDeclared.at.At.TheVariants.{Root, Used}
use Rattle.many_maps.specs.Given.SeizeWordsDeclared.fault.Fault.{Fault}
use Rattle.many_maps.specs.Given.SeizeWordsDeclared.fault.Fault.TheVariants.{RootsUsedUp}
use Rattle.many_maps.specs.Given.SeizeWordsOp.{Op, Out, Store, Exchange, Stored, Exchanged}
use Rattle.many_maps.specs.Given.SeizeWordsMem.{Mem, value_at, word_at, with_word, Can, Took}
use Rattle.many_maps.specs.Given.SeizeWordsPlan.{Now, May, Steps}
use Rattle.many_maps.proofs.Given.SeizeWordsOneOwner.AfterWrites.{word_at-with_word}
use Rattle.many_maps.proofs.Given.SeizeWordsOneOwner.Operations.{may_exchange, exchanged, may_store, stored}
use Rattle.many_maps.specs.Given.SeizeWorld.{World, Operates, IsOwnOp}
use Rattle.many_maps.specs.Given.TablesNodes.{deferred_word}
use Rattle.many_maps.specs.Given.SeizeDeclared.advance.Advance.{Advance}
use Rattle.many_maps.specs.Given.SeizeDeclared.advance.Advance.TheVariants as progress
use Rattle.many_maps.specs.Given.ResizeNewMap.{at_root, standing, next_root, taken, takes, refused, frees}
use Rattle.many_maps.specs.Given.TablesDeclared.node.Node.{Node}
use Rattle.many_maps.specs.Given.TablesDeclared.setting.Setting.{Setting}
use Rattle.many_maps.specs.Given.ResizeDeclared.new_map.NewMap.{NewMap}
use Rattle.many_maps.specs.Given.ResizeDeclared.new_map.Opening.{Opening}
use Rattle.many_maps.specs.Given.ResizeDeclared.new_map.Opening.TheVariants as at
use Rattle.many_maps.proofs.Given.RuleWorld.WentStill.{spares_same, spares_written}
use Rattle.owner_facts.specs.Maps.FactsBegins.{OpeningFacts, BeginFacts, LeavesRoots, BeginOutcome, BeginStepSpec}
use Rattle.many_maps.proofs.Given.General.{some_is as is_some_of}

module _ {K V : Type 0} (same : K → K → Bool) (hash : K → ℕ) (caller : ℕ) (setting : Setting) (w : World (Node K V)) where
  -- a step that changed nothing
  pub begin_still : (stage : Opening) (root : ℕ) (m2 : Mem (Node K V)) → m2 ≡ w.memory → (end : NewMap × Advance Setting) → BeginOutcome same hash caller setting stage w w end
      → BeginStepSpec same hash caller setting stage w root m2 end
  begin_still stage root m2 is end told = record {
    w2 = w;
    events = [];
    users = tt;
    runs = refl;
    memory = sym is;
    others = λ r other. (refl, refl);
    spares = spares_same w;
    told = told;
  }

  -- it stands elsewhere
  pub begin_at : (v : World (Node K V)) (n : NewMap) (stage : Opening) → BeginFacts same hash caller w setting n → OpeningFacts same hash caller v setting (standing n stage) stage
      → BeginFacts same hash caller v setting (standing n stage)
  begin_at v n stage f point = record { setting_is = f.setting_is; len = f.len; point = point }

  module _ (root : ℕ) (new : ℕ) (some : IsSome (word_at w.memory (Used root))) where
    used_written : word_at (with_word w.memory (Used root) new) (Used root) ≡ Some new
    used_written = word_at-with_word w.memory (Used root) new (Used root) some ∙ ap (λ q. cond q (Some new) (word_at w.memory (Used root))) (eq-eqb root root refl)

    others_kept : LeavesRoots same hash caller w.memory (with_word w.memory (Used root) new) root
    others_kept r other = (
      refl,
      word_at-with_word w.memory (Used root) new (Used r) some ∙ ap (λ q. cond q (Some new) (word_at w.memory (Used r))) (ne_eqb r root other),
    )

    -- an operation wrote whether the root is taken
    begin_wrote : (stage : Opening) (op : Op (Node K V)) (out : Out (Node K V)) → IsOwnOp deferred_word w.memory op → Took w.memory op out (with_word w.memory (Used root) new)
        → (m2 : Mem (Node K V)) → m2 ≡ with_word w.memory (Used root) new → (end : NewMap × Advance Setting)
        → BeginOutcome same hash caller setting stage w (record w { memory = with_word w.memory (Used root) new }) end → BeginStepSpec same hash caller setting stage w root m2 end
    begin_wrote stage op out own took m2 is end told = record {
      w2 = record w { memory = with_word w.memory (Used root) new };
      events = Operates op ∷ [];
      users = (tt, tt);
      runs = (record w { memory = with_word w.memory (Used root) new }, (out, with_word w.memory (Used root) new, own, took, refl), refl);
      memory = sym is;
      others = others_kept;
      spares = spares_written w (Used root) new some;
      told = told;
    }

  module _ (n : NewMap) (f : BeginFacts same hash caller w setting n) where
    -- a root is taken, or the next one is to be
    module _ (here : n.stands ≡ at.Takes) (point : OpeningFacts same hash caller w setting n at.Takes) where
      there : IsSome (word_at w.memory (Used n.setting.root))
      there = let h = point.2 n.setting.root point.1 in is_some_of (word_at w.memory (Used n.setting.root)) h.0 h.1

      pub may_takes : May Can Took value_at w.memory (takes n)
      may_takes = may_exchange w.memory (taken n) (Used n.setting.root) 0 1 there (λ x is. tt) (λ x is. tt)

      next_told : BeginOutcome same hash caller setting at.Takes w w (next_root n)
      next_told = by (nat_lt n.setting.root (n.roots - 1)) refl
        where
          below : (r roots : ℕ) → nat_lt r (roots - 1) ≡ true → r + 1 < roots
          below r roots e = grind arith

          by : (b : Bool) → nat_lt n.setting.root (n.roots - 1) ≡ b
              → BeginOutcome same hash caller setting at.Takes w w
              (if b then (record n { setting = at_root n.setting (n.setting.root + 1) }, progress.Goes) else refused n RootsUsedUp)
          by true e = record {
            setting_is = ap (λ (s : Setting). at_root s (n.setting.root + 1)) f.setting_is;
            len = f.len;
            point = subst (λ (o : Opening). OpeningFacts same hash caller w setting (record n { setting = at_root n.setting (n.setting.root + 1) }) o) (sym here)
                (point.0, below n.setting.root n.roots e, point.2);
          }
          by false e = refl

      free_root : word_at w.memory (Used n.setting.root) ≡ Some 0 → word_at w.memory (Root n.setting.root) ≡ Some 0
      free_root read = by (point.2 n.setting.root point.1)
        where
          by : (used : ℕ) × (word_at w.memory (Used n.setting.root) ≡ Some used) × (used ≡ 0 → word_at w.memory (Root n.setting.root) ≡ Some 0)
              → word_at w.memory (Root n.setting.root) ≡ Some 0
          by (used, is, free) = free (cc)

      pub went_takes : (m2 : Mem (Node K V)) (end : NewMap × Advance Setting) → Steps Took value_at w.memory (takes n) m2 end
          → BeginStepSpec same hash caller setting at.Takes w n.setting.root m2 end
      went_takes m2 end s =
          elim (exchanged w.memory (taken n) (Used n.setting.root) 0 1 m2 end s) as (λ _. BeginStepSpec same hash caller setting at.Takes w n.setting.root m2 end) [
            | inl d ↦ (let free : word_at w.memory (Used n.setting.root) ≡ Some 0 = d.1.0 ∙ ap Some d.1.1 in
                begin_wrote n.setting.root 1 there at.Takes (Exchange (Used n.setting.root) 0 1) (Exchanged (Ok d.0)) tt (d.1, refl) m2 d.2 end
                (subst (λ (e : NewMap × Advance Setting). BeginOutcome same hash caller setting at.Takes w (record w { memory = with_word w.memory (Used n.setting.root) 1 }) e) (sym d.3)
                (begin_at (record w { memory = with_word w.memory (Used n.setting.root) 1 }) n at.Shards f
                (point.0, (used_written n.setting.root 1 there, free_root free)))))
            | inr d ↦ begin_still at.Takes n.setting.root m2 d.2 end (subst (λ (e : NewMap × Advance Setting). BeginOutcome same hash caller setting at.Takes w w e) (sym d.3) next_told)
          ]

    -- the root is given up
    module _ (fault : Fault) (point : OpeningFacts same hash caller w setting n (at.Frees fault)) where
      taken_there : IsSome (word_at w.memory (Used n.setting.root))
      taken_there = is_some_of (word_at w.memory (Used n.setting.root)) 1 point.0.0

      pub may_frees : May Can Took value_at w.memory (frees n fault)
      may_frees = may_store w.memory (λ out. Now (refused n fault)) (Used n.setting.root) 0 taken_there tt

      pub went_frees : (m2 : Mem (Node K V)) (end : NewMap × Advance Setting) → Steps Took value_at w.memory (frees n fault) m2 end
          → BeginStepSpec same hash caller setting (at.Frees fault) w n.setting.root m2 end
      went_frees m2 end s =
          let d = stored w.memory (λ out. Now (refused n fault)) (Used n.setting.root) 0 m2 end s in
          begin_wrote n.setting.root 0 taken_there (at.Frees fault) (Store (Used n.setting.root) 0) Stored tt (tt, refl) m2 d.0 end
          (subst (λ (e : NewMap × Advance Setting). BeginOutcome same hash caller setting (at.Frees fault) w (record w { memory = with_word w.memory (Used n.setting.root) 0 }) e) (sym d.1)
          (used_written n.setting.root 0 taken_there, point.0.1))
