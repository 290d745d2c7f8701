-- A map that ends gives its root up, or leaves there what still waits.
use Rattle.std.specs.Prelude.{◌≢◌, Some, IsSome, ◌==◌, if◌then◌else◌}
use Rattle.std.proofs.Common.{◌≡◌, ℕ, Bool, true, false, cond, List, [], ◌∷◌, ◌++◌, inl, inr, refl, ap, sym, subst, ◌∙◌, eqb-true, eq-eqb}
use Rattle.std.proofs.lemmas.Bool.{eqb-false}
use Rattle.many_calls.specs.Given.SeizeWordsDeclared.at.At.TheVariants.{Root, Used}
use Rattle.many_calls.specs.Given.SeizeWordsOp.{Stored}
use Rattle.many_calls.specs.Given.SeizeWordsMem.{Mem, Can, Took, value_at, word_at, with_word}
use Rattle.many_calls.specs.Given.SeizeWordsPlan.{Now, May, MaySee, Steps, Ends}
use Rattle.many_calls.proofs.Given.SeizeWordsOneOwner.AfterWrites.{word_at-with_word}
use Rattle.many_calls.proofs.Given.SeizeWordsOneOwner.Operations.{may_store, stored}
use Rattle.many_calls.specs.Given.SeizeDeclared.rows.settle.Settled.{Settled}
use Rattle.many_calls.specs.Given.SeizeDeclared.rows.settle.Settled.TheVariants as settled
use Rattle.many_calls.specs.Given.SeizeFurther.{ListFrom}
use Rattle.many_calls.specs.Given.SeizeWorld.{World}
use Rattle.many_calls.specs.Given.RawEndMap.{standing, sets, frees}
use Rattle.many_calls.specs.Given.TablesDeclared.node.Node.{Node}
use Rattle.many_calls.specs.Given.TablesDeclared.setting.Setting.{Setting}
use Rattle.many_calls.specs.Given.RawDeclared.machines.end_map.EndMap.{EndMap}
use Rattle.many_calls.specs.Given.RawDeclared.machines.end_map.Ending.TheVariants as at
use Rattle.many_calls.specs.Given.RuleChart.{Chart}
use Rattle.many_calls.specs.Given.RuleWords.{Blocks, root_word}
use Rattle.many_calls.specs.Given.PointsSteps.{AreLawful}
use Rattle.many_maps.specs.FactsEnds.{WritesRoot, Spares, RootAt, IsJoined, RootIs, Since, BeganIn, EndFacts, HasEnded, EndOutcome, EndStepSpec, back_of, wait_before}
use Rattle.many_maps.proofs.Ends.Frames.{root_spares, free_spares}
use Rattle.many_maps.proofs.Ends.Since.{since_by}
use Rattle.many_maps.proofs.Ends.Memory.{list_kept}
use Rattle.many_maps.proofs.Ends.Carries.{list_some}
use Rattle.many_calls.proofs.Given.General.{some_is as is_some_of}

module _ {K V : Type 0} (same : K → K → Bool) (hash : K → ℕ) (are : AreLawful same hash) (setting : Setting) (c : Chart K) (blocks : Blocks) (lists : ℕ → List ℕ) (owns : Bool) (caller : ℕ)
    (w0 : World (Node K V)) (may : BeganIn setting c blocks lists owns same hash w0) (e : EndMap) (setting_is : e.setting ≡ setting) (owns_is : e.owns ≡ owns) (past : ℕ) (is_past : past ≡ c.past)
    (w : World (Node K V)) (back : List ℕ) (since : Since setting c blocks lists owns caller w0 w past back) (all : back_of setting c blocks lists owns ≡ back) where
  abbrev Went : Mem (Node K V) → EndMap × Settled (Node K V) → Type 0
  Went m2 end = EndStepSpec setting c blocks lists owns caller hash w0 w past back m2 end

  root_at : e.setting.root ≡ setting.root
  root_at = ap (λ (s : Setting). s.root) setting_is

  -- what waits is there
  root_is : (m : Mem (Node K V)) (word : ℕ) (l : List ℕ) → l ≢ [] → word_at m (Root setting.root) ≡ Some word → word_at m (Used setting.root) ≡ Some 1 → ListFrom m word l → RootIs setting m l
  root_is m word [] ne root used there = absurd (ne refl)
  root_is m word (x ∷ l) ne root used there = (word, root, there, used)

  not_empty : (done : List ℕ) (p : ℕ) → done ++ p ∷ [] ≢ []
  not_empty [] p k = cc k
  not_empty (x ∷ done) p k = cc k

  -- the root is written
  module _ (roots : RootAt hash setting c blocks w.memory at.Reads) (joined : IsJoined w.memory e.first e.last (wait_before setting c blocks lists owns past)) where
    some : IsSome (word_at w.memory (Root setting.root))
    some = is_some_of (word_at w.memory (Root setting.root)) (root_word hash c blocks) roots.0

    abbrev written : World (Node K V)
    written = record w { memory = with_word w.memory (Root setting.root) e.first }

    spares : Spares setting caller w written (WritesRoot (Root setting.root) e.first)
    spares = root_spares setting caller w e.first some

    since_written : Since setting c blocks lists owns caller w0 written past back
    since_written =
        since_by setting c blocks lists owns caller w0 w past back since written (WritesRoot (Root setting.root) e.first) spares back refl (λ x none. (none, refl)) (λ x none. refl) (λ x handed. (refl, refl)) (λ x on. refl)

    root_now : word_at written.memory (Root setting.root) ≡ Some e.first
    root_now = word_at-with_word w.memory (Root setting.root) e.first (Root setting.root) some
        ∙ ap (λ (q : Bool). cond q (Some e.first) (word_at w.memory (Root setting.root))) (eq-eqb setting.root setting.root refl)

    see_sets : MaySee {R = EndMap × Settled (Node K V)} (value_at (with_word w.memory (Root e.setting.root) e.first))
        (if e.first == 0 then Now (standing e at.Frees, settled.Goes) else Now (standing e at.Over, settled.Done))
    see_sets = by (e.first == 0)
      where
        by : (b : Bool) → MaySee {R = EndMap × Settled (Node K V)} (value_at (with_word w.memory (Root e.setting.root) e.first))
            (if b then Now (standing e at.Frees, settled.Goes) else Now (standing e at.Over, settled.Done))
        by true = tt
        by false = tt

    pub may_sets : May Can Took value_at w.memory (sets e)
    may_sets = may_store {R = EndMap × Settled (Node K V)} w.memory (λ out. if e.first == 0 then Now (standing e at.Frees, settled.Goes) else Now (standing e at.Over, settled.Done))
        (Root e.setting.root) e.first (subst (λ (r : ℕ). IsSome (word_at w.memory (Root r))) (sym root_at) some) see_sets

    frees_next : e.first ≡ 0 → EndFacts setting c blocks lists owns caller hash w0 written (standing e at.Frees) past back
    frees_next none = record {
      setting_is = setting_is;
      owns_is = owns_is;
      since = since_written;
      root = (root_now ∙ ap Some none, roots.1);
      point = (is_past, no_list joined, all);
    }
      where
        no_list : IsJoined w.memory e.first e.last (wait_before setting c blocks lists owns past) → wait_before setting c blocks lists owns past ≡ []
        no_list (inl k) = k.0
        no_list (inr k) = absurd (list_some w.memory e.first k.1 k.0 k.4 none)

    ended_here : e.first ≢ 0 → HasEnded setting c blocks lists owns caller hash w0 written past back
    ended_here some_first = by joined
      where
        by : IsJoined w.memory e.first e.last (wait_before setting c blocks lists owns past) → HasEnded setting c blocks lists owns caller hash w0 written past back
        by (inl k) = absurd (some_first k.1)
        by (inr k) = record {
          since = since_written;
          past_is = is_past;
          back_is = all;
          root = subst (λ (l : List ℕ). RootIs setting written.memory l) (sym k.2)
              (root_is written.memory e.first (k.0 ++ k.1 ∷ []) (not_empty k.0 k.1) root_now roots.1 (list_kept w.memory written.memory e.first (k.0 ++ k.1 ∷ []) (λ x on. refl) k.4));
        }

    abbrev Told : EndMap × Settled (Node K V) → Type 0
    Told end = EndOutcome setting c blocks lists owns caller hash w0 w written (WritesRoot (Root setting.root) e.first) past back end

    sets_told : (end : EndMap × Settled (Node K V)) → Ends {R = EndMap × Settled (Node K V)} (value_at (with_word w.memory (Root e.setting.root) e.first))
        (if e.first == 0 then Now (standing e at.Frees, settled.Goes) else Now (standing e at.Over, settled.Done)) end → Told end
    sets_told end = by (e.first == 0) refl
      where
        by : (b : Bool) → (e.first == 0) ≡ b → Ends {R = EndMap × Settled (Node K V)} (value_at (with_word w.memory (Root e.setting.root) e.first))
            (if b then Now (standing e at.Frees, settled.Goes) else Now (standing e at.Over, settled.Done)) end → Told end
        by true z k = subst (λ (x : EndMap × Settled (Node K V)). Told x) (sym k) (refl, frees_next (eqb-true e.first 0 z))
        by false z k = subst (λ (x : EndMap × Settled (Node K V)). Told x) (sym k) (refl, ended_here (eqb-false e.first 0 z))

    pub went_sets : (m2 : Mem (Node K V)) (end : EndMap × Settled (Node K V)) → Steps Took value_at w.memory (sets e) m2 end → Went m2 end
    went_sets m2 end s =
        let d = stored {R = EndMap × Settled (Node K V)} w.memory (λ out. if e.first == 0 then Now (standing e at.Frees, settled.Goes) else Now (standing e at.Over, settled.Done))
        (Root e.setting.root) e.first m2 end s in
        record {
          w2 = written;
          deed = WritesRoot (Root setting.root) e.first;
          past2 = past;
          runs = (written, (Stored, written.memory, tt, (tt, refl), refl), refl);
          memory = sym (d.0 ∙ ap (λ (r : ℕ). with_word w.memory (Root r) e.first) root_at);
          fresh = tt;
          spares = spares;
          its = (refl, inl refl);
          told = sets_told end d.1;
        }

  -- the root is given up
  module _ (root_zero : word_at w.memory (Root setting.root) ≡ Some 0) (used : word_at w.memory (Used setting.root) ≡ Some 1) (none_waits : wait_before setting c blocks lists owns past ≡ []) where
    taken : IsSome (word_at w.memory (Used setting.root))
    taken = is_some_of (word_at w.memory (Used setting.root)) 1 used

    abbrev free : World (Node K V)
    free = record w { memory = with_word w.memory (Used setting.root) 0 }

    free_spare : Spares setting caller w free (WritesRoot (Used setting.root) 0)
    free_spare = free_spares setting caller w taken

    pub may_frees : May Can Took value_at w.memory (frees e)
    may_frees = may_store {R = EndMap × Settled (Node K V)} w.memory (λ out. Now (standing e at.Over, settled.Done)) (Used e.setting.root) 0
        (subst (λ (r : ℕ). IsSome (word_at w.memory (Used r))) (sym root_at) taken) tt

    freed : HasEnded setting c blocks lists owns caller hash w0 free past back
    freed = record {
      since =
          since_by setting c blocks lists owns caller w0 w past back since free (WritesRoot (Used setting.root) 0) free_spare back refl (λ x none. (none, refl)) (λ x none. refl) (λ x handed. (refl, refl)) (λ x on. refl);
      past_is = is_past;
      back_is = all;
      root = subst (λ (l : List ℕ). RootIs setting free.memory l) (sym none_waits) (
        root_zero,
        word_at-with_word w.memory (Used setting.root) 0 (Used setting.root) taken ∙ ap (λ (q : Bool). cond q (Some 0) (word_at w.memory (Used setting.root))) (eq-eqb setting.root setting.root refl),
      );
    }

    pub went_frees : (m2 : Mem (Node K V)) (end : EndMap × Settled (Node K V)) → Steps Took value_at w.memory (frees e) m2 end → Went m2 end
    went_frees m2 end s =
        let d = stored {R = EndMap × Settled (Node K V)} w.memory (λ out. Now (standing e at.Over, settled.Done)) (Used e.setting.root) 0 m2 end s in
        record {
          w2 = free;
          deed = WritesRoot (Used setting.root) 0;
          past2 = past;
          runs = (free, (Stored, free.memory, tt, (tt, refl), refl), refl);
          memory = sym (d.0 ∙ ap (λ (r : ℕ). with_word w.memory (Used r) 0) root_at);
          fresh = tt;
          spares = free_spare;
          its = (refl, inr refl);
          told = subst (λ (x : EndMap × Settled (Node K V)). EndOutcome setting c blocks lists owns caller hash w0 w free (WritesRoot (Used setting.root) 0) past back x) (sym d.1) (refl, freed);
        }
