-- What a change took out of a map and met, as it is kept by its words, and shown until the next change.
use Rattle.std.specs.Prelude.{◌≡◌, ℕ, Bool, true, List, Option, Result, Ok, Err, IfOk, OnOk, OnErr, MatchResult}
use Rattle.std.proofs.Common.{sym, ◌∙◌}
use Rattle.seize_words.specs.OneMemory.Mem.{Mem}
use Rattle.map_tables.specs.declared.node.Node.{Node}
use Rattle.map_tables.specs.declared.setting.Setting.{Setting}
use Rattle.owner_rests.specs.Given.{Holds}
use Rattle.owner_rests.specs.Rests.Lasts.{QuiescentWith, is_named, pair_in}
use Rattle.owner_rests.specs.declared.last.Last.{Last}
use Rattle.owner_rests.proofs.Rests.Lasts.{met_named, met_shown, taken_named, taken_shown}

module _ {K V : Type 0} (same : K → K → Bool) (hash : K → ℕ) (setting : Setting) (m : Mem (Node K V)) (last : Last) where
  abbrev pub With : List (K × V) → Option (K × V) → Option (K × V) → Type 0
  With = QuiescentWith same hash setting m last

  -- these pairs are shown
  abbrev pub Shown : Option (K × V) → Option (K × V) → Type 0
  Shown taken met = (pair_in m last.taken ≡ taken) × (pair_in m last.met ≡ met)

  -- Whatever a change has come to, the map rests with some pairs, and what its words name can be looked at.
  pub record Rested : Type 0 where
    pub pairs : List (K × V)
    pub holds : Holds same hash setting m pairs
    pub takes : is_named m last.taken ≡ true
    pub meets : is_named m last.met ≡ true

  pub rested : (xs : List (K × V)) (taken met : Option (K × V)) → With xs taken met → Rested
  rested xs taken met r =
      record { pairs = xs; holds = r.holds; takes = taken_named same hash setting m last xs taken met r; meets = met_named same hash setting m last xs taken met r }

  -- as it is told of pairs that are found in another order
  pub shown_of : (xs : List (K × V)) (taken met : Option (K × V)) → With xs taken met → (t u : Option (K × V)) → t ≡ taken → u ≡ met → Shown t u
  shown_of xs taken met r t u t_is u_is = (taken_shown same hash setting m last xs taken met r ∙ sym t_is, met_shown same hash setting m last xs taken met r ∙ sym u_is)

  module _ {T E : Type 0} where
    pub holds_ok : (r : Result T E) (xs : List (K × V)) (taken met : Option (K × V)) → OnOk r (With xs taken met) → OnOk r (Holds same hash setting m xs)
    holds_ok (Ok x) xs taken met so = so.holds
    holds_ok (Err e) xs taken met so = tt

    pub holds_err : (r : Result T E) (xs : List (K × V)) (taken met : Option (K × V)) → OnErr r (With xs taken met) → OnErr r (Holds same hash setting m xs)
    holds_err (Ok x) xs taken met so = tt
    holds_err (Err e) xs taken met so = so.holds

    -- what was taken out, as it is told of pairs in another order
    pub ok_taken : (r : Result T E) (xs : List (K × V)) (taken met : Option (K × V)) → OnOk r (With xs taken met) → (was : Option (K × V)) → was ≡ taken → OnOk r (pair_in m last.taken ≡ was)
    ok_taken (Ok x) xs taken met done was is = taken_shown same hash setting m last xs taken met done ∙ sym is
    ok_taken (Err e) xs taken met done was is = tt

    pub either_rested : (r : Result T E) (xs ys : List (K × V)) (taken met t u : Option (K × V)) → OnOk r (With xs taken met) → OnErr r (With ys t u) → Rested
    either_rested (Ok x) xs ys taken met t u done refused = rested xs taken met done
    either_rested (Err e) xs ys taken met t u done refused = rested ys t u refused

    pub either_shown : (r : Result T E) (xs ys : List (K × V)) (taken met t u : Option (K × V)) → OnOk r (With xs taken met) → OnErr r (With ys t u)
        → (was : Option (K × V)) → was ≡ taken → MatchResult r (λ _. Shown was met) (λ _. Shown t u)
    either_shown (Ok x) xs ys taken met t u done refused was is = shown_of xs taken met done was met is (λ i. met)
    either_shown (Err e) xs ys taken met t u done refused was is = shown_of ys t u refused t u (λ i. t) (λ i. u)

  -- so of a call that stores its pair only where there is none
  module _ {T F E : Type 0} where
    pub holds_stored : (A : Type 0) (r : Result (Result T F) E) (xs : List (K × V)) (taken met : Option (K × V)) → IfOk r (λ tried. OnOk tried (A × With xs taken met))
        → IfOk r (λ tried. OnOk tried (A × Holds same hash setting m xs))
    holds_stored A (Ok (Ok x)) xs taken met so = (so.0, so.1.holds)
    holds_stored A (Ok (Err f)) xs taken met so = tt
    holds_stored A (Err e) xs taken met so = tt

    pub holds_found : (A : Type 0) (r : Result (Result T F) E) (xs : List (K × V)) (taken met : Option (K × V)) → IfOk r (λ tried. OnErr tried (A × With xs taken met))
        → IfOk r (λ tried. OnErr tried (A × Holds same hash setting m xs))
    holds_found A (Ok (Ok x)) xs taken met so = tt
    holds_found A (Ok (Err f)) xs taken met so = (so.0, so.1.holds)
    holds_found A (Err e) xs taken met so = tt

    pub each_rested : (A B : Type 0) (r : Result (Result T F) E) (xs ys zs : List (K × V)) (taken met left found t u : Option (K × V)) → IfOk r (λ tried. OnOk tried (A × With xs taken met))
        → IfOk r (λ tried. OnErr tried (B × With ys left found)) → OnErr r (With zs t u) → Rested
    each_rested A B (Ok (Ok x)) xs ys zs taken met left found t u stored there refused = rested xs taken met stored.1
    each_rested A B (Ok (Err f)) xs ys zs taken met left found t u stored there refused = rested ys left found there.1
    each_rested A B (Err e) xs ys zs taken met left found t u stored there refused = rested zs t u refused

    pub each_shown : (A B : Type 0) (r : Result (Result T F) E) (xs ys zs : List (K × V)) (taken met left found t u : Option (K × V)) → IfOk r (λ tried. OnOk tried (A × With xs taken met))
        → IfOk r (λ tried. OnErr tried (B × With ys left found)) → OnErr r (With zs t u) → (stands : Option (K × V)) → stands ≡ found
        → MatchResult r (λ tried. MatchResult tried (λ _. Shown taken met) (λ _. Shown left stands)) (λ _. Shown t u)
    each_shown A B (Ok (Ok x)) xs ys zs taken met left found t u stored there refused stands is = shown_of xs taken met stored.1 taken met (λ i. taken) (λ i. met)
    each_shown A B (Ok (Err f)) xs ys zs taken met left found t u stored there refused stands is = shown_of ys left found there.1 left stands (λ i. left) is
    each_shown A B (Err e) xs ys zs taken met left found t u stored there refused stands is = shown_of zs t u refused t u (λ i. t) (λ i. u)
