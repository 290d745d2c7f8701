-- In incremental mode, a caller puts the pair of a place that it has marked into a later table, behind tables that are shut for it.
use Rattle.std.proofs.Common.{◌≡◌, ℕ, ◌<◌, ◌≤◌, Bool, true, false, Option, Some, ◌⊎◌, inl, inr, eq-or-lt_of_le, refl, ap, sym, subst, arith}
use Rattle.map_rule.specs.Chart.{Phase, Still, Copying, Copied, Place, Holds, Chart, put_in, is_taken}
use Rattle.map_rule.specs.Rule.{Rule, IsLawful, Shut, WasCopied, Full, IsMoving, is_of, names}
use Rattle.map_rule.specs.Moves.{Puts, Allowed, NamedInRootAlone, lent_place}
use Rattle.map_rule.specs.Lasts.{MoveKeeps}
use Rattle.map_rule.proofs.Moves.Shuts.{of_class, key_class, shut_class, shut_not_open}
use Rattle.map_rule.proofs.Moves.Puts.{Found, filled, filled_common, filled_lasts}
use Rattle.map_rule.proofs.Moves.Writes.{put_in_one, filled_elsewhere, stays_held, stays_taken}

-- the new pair is borrowed, and what isn't stands in no table before its own
lent_after : (place : ℕ → ℕ → Place) (root t p i n : ℕ) (lent : Bool) (v : Place) → v ≡ Holds n Still true → place root i ≡ Holds n Copying lent → root < t
    → ((t u i j n : ℕ) (phase phase2 : Phase) (borrowed : Bool) → place t i ≡ Holds n phase false → place u j ≡ Holds n phase2 borrowed → t ≤ u)
    → (u x g h m : ℕ) (phase phase2 : Phase) (borrowed : Bool) → put_in place t p v u g ≡ Holds m phase false → put_in place t p v x h ≡ Holds m phase2 borrowed → u ≤ x
lent_after place root t p i n lent v pair stands later old u x g h m phase phase2 borrowed e f = put_in_one
    (λ x h w. w ≡ Holds m phase2 borrowed → u ≤ x)
    place t p v
    (λ same_pair. let l = old u root g i m phase Copying lent first_place (cc (pair, same_pair, stands)) in omega arith)
    (λ x h. old u x g h m phase phase2 borrowed first_place)
    x h f
  where
    first_place : place u g ≡ Holds m phase false
    first_place = filled_elsewhere place t p v u g _ e (λ a b. grind (arith, pair))

module _ {K : Type 0} (same : K → K → Bool) (spot : ℕ → K → ℕ → ℕ) where
  abbrev lent : Chart K → ℕ → Place
  lent c i = lent_place spot true (c.place c.first i)

  -- a table is shut for the class of a pair behind it, or is the root and the pair is being copied
  abbrev Behind : Chart K → ℕ → ℕ → Place → ℕ → ℕ → Bool → K → Type 0
  Behind c t p v x m borrowed class =
      Shut same spot true (filled same spot true c t p v c.share) x class ⊎ ((x ≡ c.first) × (borrowed ≡ true) × IsMoving same spot true (filled same spot true c t p v c.share) m)

  -- a later table has no pair of the class
  unnamed : IsLawful same spot → (c : Chart K) (k class : K) (key : Option K) → NamedInRootAlone same spot true c k → key ≡ Some k → is_of same spot true class key ≡ true
      → (t i n : ℕ) (phase : Phase) (borrowed : Bool) → c.first < t → c.place t i ≡ Holds n phase borrowed → is_of same spot true class (c.key n) ≡ true → ⊥
  unnamed lawful c k class key alone has is t i n phase borrowed h e f =
      let none = alone t i h in
      let one = of_class same spot true lawful class k (c.key n) (key_class same spot true class k key has is) in
      let named : names same spot true c.key k (c.place t i) ≡ is_of same spot true k (c.key n) = ap (names same spot true c.key k) e in
      absurd (cc)

  found : IsLawful same spot → (caller i t : ℕ) (k : K) (j : ℕ) (c : Chart K) → Rule same spot true c → (may : Allowed same spot true (Puts caller i t k j) c)
      → Found same spot true c t (spot (c.len t) k j) may.6.0 k (lent c i)
  found lawful caller i t k j c rule may =
      let all = rule.common in
      let n = may.6.0 in
      let stands = may.6.2 in
      record {
        later = may.0;
        made = may.1;
        inside = lawful.within (c.len t) j k (all.lens t may.1).0;
        empty = may.4;
        path = (j, may.3, refl, may.5);
        pair = ap (lent_place spot true) stands;
        has_key = may.6.3;
        was_stored = (all.keyed c.first i n Copying may.6.1 stands).0;
        in_map = all.is_current c.first i n Copying may.6.1 stands (λ e. absurd (cc)) (omega arith);
        alone = λ live class is g o phase borrowed e f. unnamed lawful c k class (c.key n) may.7.1 may.6.3 is t g o phase borrowed may.0 e f;
      }

  -- a table that is shut for a class stays so: it has no empty place on a path of the class
  shut_stays : IsLawful same spot → (caller i t : ℕ) (k : K) (j : ℕ) (c : Chart K) → Rule same spot true c → (may : Allowed same spot true (Puts caller i t k j) c)
      → (u : ℕ) (class : K) → Shut same spot true c u class → Shut same spot true (filled same spot true c t (spot (c.len t) k j) (lent c i) c.share) u class
  shut_stays lawful caller i t k j c rule may u class shut = (
    λ g. put_in_one (λ x g w. x ≡ u → (m : ℕ) (phase : Phase) (borrowed : Bool) → w ≡ Holds m phase borrowed → is_of same spot true class (c.key m) ≡ true → phase ≡ Copied)
        c.place t p v
        (λ there m phase borrowed e is. absurd (never there (subst (λ (x : ℕ). is_of same spot true class (c.key x) ≡ true) (cc here.pair) is)))
        (λ x g e m phase borrowed at. shut.0 g m phase borrowed (cc at))
        u g refl,
    either shut.1,
  )
    where
      p : ℕ
      p = spot (c.len t) k j

      v : Place
      v = lent c i

      here : Found same spot true c t p may.6.0 k v
      here = found lawful caller i t k j c rule may

      never : t ≡ u → is_of same spot true class (c.key may.6.0) ≡ true → ⊥
      never there is =
          let closed = shut_class same spot true lawful c t class k (key_class same spot true class k (c.key may.6.0) may.6.3 is) (subst (λ (x : ℕ). Shut same spot true c x class) (sym there) shut) in
          shut_not_open same spot true lawful c rule.common t k j (rule.in_mode.never_aborted t) closed (λ g l. (may.5 g l, may.7.1 t (spot (c.len t) k g) may.0)) may.3 may.4

      either : WasCopied same spot true c u class ⊎ Full same spot true c u class
          → WasCopied same spot true (filled same spot true c t p v c.share) u class ⊎ Full same spot true (filled same spot true c t p v c.share) u class
      either (inl w) = inl (w.0, w.1, w.2, stays_held c.place t p v may.4 u w.0 w.1 Copied w.2 w.3, w.4)
      either (inr full) = inr (λ g l. stays_taken true c.place t p v u (spot (c.len u) class g) (ap (is_taken true) here.pair) (full g l))

  -- the tables before are shut for the class that stands in a later one, or its pair is being copied
  chained : IsLawful same spot → (caller i t : ℕ) (k : K) (j : ℕ) (c : Chart K) → Rule same spot true c → (may : Allowed same spot true (Puts caller i t k j) c)
      → (u g x m : ℕ) (phase : Phase) (borrowed : Bool) (class : K) → put_in c.place t (spot (c.len t) k j) (lent c i) u g ≡ Holds m phase borrowed → c.key m ≡ Some class → x < u → c.first ≤ x
      → Behind c t (spot (c.len t) k j) (lent c i) x m borrowed class
  chained lawful caller i t k j c rule may = put_in_one
      (λ u g w. (x m : ℕ) (phase : Phase) (borrowed : Bool) (class : K) → w ≡ Holds m phase borrowed → c.key m ≡ Some class → x < u → c.first ≤ x → Behind c t p v x m borrowed class)
      c.place t p v
      (λ x m phase borrowed class e f l h. new x m phase borrowed class e f l (eq-or-lt_of_le h))
      (λ u g x m phase borrowed class e f l h. old x m borrowed class (rule.in_mode.chain x u g m phase borrowed class e f l h))
    where
      p : ℕ
      p = spot (c.len t) k j

      v : Place
      v = lent c i

      here : Found same spot true c t p may.6.0 k v
      here = found lawful caller i t k j c rule may

      shut : (x : ℕ) (class : K) → Shut same spot true c x class → Shut same spot true (filled same spot true c t p v c.share) x class
      shut = shut_stays lawful caller i t k j c rule may

      new : (x m : ℕ) (phase : Phase) (borrowed : Bool) (class : K) → v ≡ Holds m phase borrowed → c.key m ≡ Some class → x < t → (c.first ≡ x) ⊎ (c.first < x)
          → Behind c t p v x m borrowed class
      new x m phase borrowed class e f l (inl at) =
          inr (sym at, cc (here.pair, e), (i, may.6.1, stays_held c.place t p v may.4 c.first i m Copying may.6.1 (cc (here.pair, e, may.6.2))))
      new x m phase borrowed class e f l (inr h) = inl (shut x class (subst (λ (y : K). Shut same spot true c x y) (cc (here.pair, e, f, here.has_key)) (may.7.2 x h l)))

      old : (x m : ℕ) (borrowed : Bool) (class : K) → Shut same spot true c x class ⊎ ((x ≡ c.first) × (borrowed ≡ true) × IsMoving same spot true c m)
          → Behind c t p v x m borrowed class
      old x m borrowed class (inl closed) = inl (shut x class closed)
      old x m borrowed class (inr w) = inr (w.0, w.1, (w.2.0, w.2.1, stays_held c.place t p v may.4 c.first w.2.0 m Copying w.2.1 w.2.2))

  pub kept_puts : IsLawful same spot → (caller i t : ℕ) (k : K) (j : ℕ) (c : Chart K)
      → Rule same spot true c → Allowed same spot true (Puts caller i t k j) c → MoveKeeps same spot true (Puts caller i t k j) c
  kept_puts lawful caller i t k j c rule may =
      let all = rule.common in
      let bits = rule.in_mode in
      let n = may.6.0 in
      let stands = may.6.2 in
      let p = spot (c.len t) k j in
      let v = lent c i in
      let here = found lawful caller i t k j c rule may in (
        record {
          common = filled_common same spot true c t p n k v c.share all here (λ u g h. refl) (λ u. refl);
          in_mode = record {
            settled = λ u g h l. grind (arith, bits.settled u g h l);
            chain = λ x u g m phase borrowed class. chained lawful caller i t k j c rule may u g x m phase borrowed class;
            shares = λ g h. grind (arith, bits.shares g h);
            only_next = bits.only_next;
            lent = lent_after c.place c.first t p i n may.6.1 v here.pair stands may.0 bits.lent;
            never_aborted = bits.never_aborted;
          };
        },
        filled_lasts same spot true c t p n k v c.share here (λ u class e l. shut_stays lawful caller i t k j c rule may u class),
        λ x u g other e. refl,
      )
