-- What a step looks at, in the memory to which its operation has led, as a list: by that it comes to the same, and may look at what it looks at.
use Rattle.std.specs.Prelude.{◌≢◌, Option, Some, None, IsSome, if◌then◌else◌}
use Rattle.std.proofs.Common.{◌≡◌, ℕ, Bool, List, [], ◌∷◌, ◌⊎◌, inl, inr, refl, sym, subst, ap, ◌∙◌}
use Rattle.std.proofs.lemmas.Bool.{cases_eq, eq-eqb, ne_eqb}
use Rattle.seize_words.specs.OneMemory.Mem.{Mem, Can, Took, value_at}
use Rattle.seize_words.specs.OneMemory.Op.{Op, Out}
use Rattle.seize_words.specs.OneMemory.Plan.{Plan, Then, Turn, Do, Now, Seeing, Sure, Ends, MaySee, May, Steps}
use Rattle.seize_acts.proofs.Acts.Answers.{ended}
use Rattle.seize_acts.proofs.Acts.Steps.{sees_end}
use Rattle.seize_views.specs.Views.Promises.{op_in}
use Rattle.seize_views.specs.Views.Told.{FollowsBy}
use Rattle.many_acts.specs.Looks.Blocks.{MayLookAt}
use Rattle.many_acts.specs.Looks.Sees.{HasSeen}
use Rattle.threads_rule.specs.Views.Looks.{shown_in, TurnsTo, MayFollow}
use Rattle.seize_words.proofs.General.{same_some}

module _ {T : Type 0} where
  -- what the list shows is so
  abbrev pub IsSo : (ℕ → Option T) → List (ℕ × T) → Type 0
  IsSo shown looks = (b : ℕ) (x : T) → shown_in looks b ≡ Some x → shown b ≡ Some x

  -- one block more
  pub so_with : (shown : ℕ → Option T) (looks : List (ℕ × T)) (b : ℕ) (x : T) → shown b ≡ Some x → IsSo shown looks → IsSo shown ((b, x) ∷ looks)
  so_with shown looks b x is so c y e = by (cases_eq c b)
    where
      by : (c ≡ b) ⊎ (c ≢ b) → shown c ≡ Some y
      by (inl same) =
          let here : shown_in ((b, x) ∷ looks) c ≡ Some x = ap (λ (k : Bool). if k then Some x else shown_in looks c) (eq-eqb c b same) in
          ap shown same ∙ is ∙ sym here ∙ e
      by (inr other) =
          so c y (sym (ap (λ (k : Bool). if k then Some x else shown_in looks c) (ne_eqb c b other)) ∙ e)

  -- what was shown is shown on, with one block more
  pub shown_on : (shown : ℕ → Option T) (looks : List (ℕ × T)) (b : ℕ) (x : T) → shown b ≡ Some x → IsSo shown looks → (c : ℕ) (y : T) → shown_in looks c ≡ Some y
      → shown_in ((b, x) ∷ looks) c ≡ Some y
  shown_on shown looks b x is so c y e = by (cases_eq c b)
    where
      by : (c ≡ b) ⊎ (c ≢ b) → shown_in ((b, x) ∷ looks) c ≡ Some y
      by (inl same) =
          ap (λ (k : Bool). if k then Some x else shown_in looks c) (eq-eqb c b same) ∙ sym is ∙ sym (ap shown same) ∙ so c y e
      by (inr other) = ap (λ (k : Bool). if k then Some x else shown_in looks c) (ne_eqb c b other) ∙ e

module _ {T R : Type 0} where
  ends_on : (shown other : ℕ → Option T) → ((c : ℕ) (y : T) → shown c ≡ Some y → other c ≡ Some y) → (rest : Then T R) (end : R) → Ends shown rest end → Ends other rest end
  ends_on shown other on (Now x) end e = e
  ends_on shown other on (Seeing block rest) end e = (e.0, on block e.0 e.1, ends_on shown other on (rest e.0) end e.2)
  ends_on shown other on (Sure fact rest) end e = ends_on shown other on rest end e

  -- what may be looked at may be so where more is shown
  may_on : (shown other : ℕ → Option T) → ((c : ℕ) (y : T) → shown c ≡ Some y → other c ≡ Some y) → (rest : Then T R) → MaySee shown rest → MaySee other rest
  may_on shown other on (Now x) may = tt
  may_on shown other on (Seeing block rest) may = by (shown block) refl may.0 (λ x e. may_on shown other on (rest x) (may.1 x e))
    where
      by : (o : Option T) → shown block ≡ o → IsSome o → ((x : T) → shown block ≡ Some x → MaySee other (rest x)) → MaySee other (Seeing block rest)
      by None e some then_ = absurd (cc some)
      by (Some x) e some then_ = (
        subst (λ (o : Option T). IsSome o) (sym (on block x e)) refl,
        λ value is.
            let same : x ≡ value = same_some x value (sym (on block x e) ∙ is) in then_ value (e ∙ ap Some same),
      )
  may_on shown other on (Sure fact rest) may = (may.0, may_on shown other on rest may.1)

  -- the rest looks at each of these blocks, which has this value
  abbrev AllSeen : (ℕ → Option T) → Then T R → List (ℕ × T) → Type 0
  AllSeen shown rest [] = Unit {0}
  AllSeen shown rest (look ∷ looks) = MayLookAt look.0 shown rest × (shown look.0 ≡ Some look.1) × AllSeen shown rest looks

  seen_on : (shown : ℕ → Option T) (block : ℕ) (rest : T → Then T R) (value : T) → shown block ≡ Some value → (looks : List (ℕ × T)) → AllSeen shown (rest value) looks
      → AllSeen shown (Seeing block rest) looks
  seen_on shown block rest value is [] seen = tt
  seen_on shown block rest value is (look ∷ looks) seen = (inr (value, is, seen.0), seen.1, seen_on shown block rest value is looks seen.2)

  seen_sure : (shown : ℕ → Option T) (fact : Bool) (rest : Then T R) (looks : List (ℕ × T)) → AllSeen shown rest looks → AllSeen shown (Sure fact rest) looks
  seen_sure shown fact rest [] seen = tt
  seen_sure shown fact rest (look ∷ looks) seen = (seen.0, seen.1, seen_sure shown fact rest looks seen.2)

  looked : (shown : ℕ → Option T) (rest : Then T R) (end : R) → Ends shown rest end → MaySee shown rest
      → (looks : List (ℕ × T)) × IsSo shown looks × Ends (shown_in looks) rest end × AllSeen shown rest looks × MaySee (shown_in looks) rest
  looked shown (Now x) end e may = ([], λ b y none. absurd (cc none), e, tt, tt)
  looked shown (Seeing block rest) end e may =
      let l = looked shown (rest e.0) end e.2 (may.1 e.0 e.1) in
      let here : shown_in ((block, e.0) ∷ l.0) block ≡ Some e.0 = ap (λ (k : Bool). if k then Some e.0 else shown_in l.0 block) (eq-eqb block block refl) in
      let on = shown_on shown l.0 block e.0 e.1 l.1 in (
        (block, e.0) ∷ l.0,
        so_with shown l.0 block e.0 e.1 l.1,
        (e.0, here, ends_on (shown_in l.0) (shown_in ((block, e.0) ∷ l.0)) on (rest e.0) end l.2),
        (inl refl, e.1, seen_on shown block rest e.0 e.1 l.0 l.3),
        (
          subst (λ (o : Option T). IsSome o) (sym here) refl,
          λ value is.
              let same : e.0 ≡ value = same_some e.0 value (sym here ∙ is) in
              subst (λ (v : T). MaySee (shown_in ((block, e.0) ∷ l.0)) (rest v)) same (may_on (shown_in l.0) (shown_in ((block, e.0) ∷ l.0)) on (rest e.0) l.4),
        ),
      )
  looked shown (Sure fact rest) end e may = let l = looked shown rest end e may.1 in (l.0, l.1, l.2, seen_sure shown fact rest l.0 l.3, (may.0, l.4))

  -- the step that came to this memory and this end has seen each of these blocks, which has this value there
  abbrev pub AllLooked : Mem T → Plan T R → Mem T → R → List (ℕ × T) → Type 0
  AllLooked m plan n end [] = Unit {0}
  AllLooked m plan n end (look ∷ looks) = HasSeen look.0 m plan n end × (value_at n look.0 ≡ Some look.1) × AllLooked m plan n end looks

  -- or what else is known of the block is told by this
  abbrev pub AllKnown : (ℕ → Type 0) → Mem T → Plan T R → Mem T → R → List (ℕ × T) → Type 0
  AllKnown told m plan n end [] = Unit {0}
  AllKnown told m plan n end (look ∷ looks) = (HasSeen look.0 m plan n end ⊎ told look.0) × (value_at n look.0 ≡ Some look.1) × AllKnown told m plan n end looks

  pub all_known : (told : ℕ → Type 0) (m : Mem T) (plan : Plan T R) (n : Mem T) (end : R) (looks : List (ℕ × T)) → AllLooked m plan n end looks → AllKnown told m plan n end looks
  all_known told m plan n end [] seen = tt
  all_known told m plan n end (look ∷ looks) seen = (inl seen.0, seen.1, all_known told m plan n end looks seen.2)

  looked_op : (m n : Mem T) (op : Op T) (rest : Out T → Then T R) (out : Out T) (end : R) → Took m op out n → Ends (value_at n) (rest out) end → (looks : List (ℕ × T))
      → AllSeen (value_at n) (rest out) looks → AllLooked m (Do op rest) n end looks
  looked_op m n op rest out end took ends [] seen = tt
  looked_op m n op rest out end took ends (look ∷ looks) seen = ((out, took, ends, seen.0), seen.1, looked_op m n op rest out end took ends looks seen.2)

  looked_turn : (m : Mem T) (rest : Then T R) (end : R) → Ends (value_at m) rest end → (looks : List (ℕ × T)) → AllSeen (value_at m) rest looks → AllLooked m (Turn rest) m end looks
  looked_turn m rest end ends [] seen = tt
  looked_turn m rest end ends (look ∷ looks) seen = ((refl, ends, seen.0), seen.1, looked_turn m rest end ends looks seen.2)

  -- What may be done, and is an operation, may be made; and whatever it has led to the step comes to an end, which it comes to by a list of what it looks at.
  pub record Made (m : Mem T) (plan : Plan T R) (out : Out T) (n : Mem T) : Type 0 where
    pub end : R
    pub steps : Steps Took value_at m plan n end
    pub looks : List (ℕ × T)
    pub so : IsSo (value_at n) looks
    pub seen : AllLooked m plan n end looks
    pub follows : FollowsBy (shown_in looks) plan out end
    pub may : MayFollow (shown_in looks) plan out

  pub may_op : (m : Mem T) (plan : Plan T R) (op : Op T) → op_in plan ≡ Some op → May Can Took value_at m plan
      → Can m op × ((out : Out T) (n : Mem T) → Took m op out n → Made m plan out n)
  may_op m (Turn rest) op e may = absurd (cc e)
  may_op m (Do o rest) op e may =
      subst (λ (x : Op T). Can m x × ((out : Out T) (n : Mem T) → Took m x out n → Made m (Do o rest) out n)) (same_some o op e) (
        may.0,
        λ out n took.
            let s = sees_end (value_at n) (rest out) (may.1 out n took) in
            let ends = ended (value_at n) (rest out) s.0 s.1 in
            let l = looked (value_at n) (rest out) s.0 ends (may.1 out n took) in
            record { end = s.0; steps = (out, took, ends); looks = l.0; so = l.1; seen = looked_op m n o rest out s.0 took ends l.0 l.3; follows = l.2; may = l.4 },
      )

  -- a step that makes no operation leaves the memory as it is
  pub may_turn : (m : Mem T) (plan : Plan T R) (rest : Then T R) → plan ≡ Turn rest → May Can Took value_at m plan
      → (end : R) × Steps Took value_at m plan m end × (looks : List (ℕ × T)) × AllLooked m plan m end looks × TurnsTo (shown_in looks) plan end × IsSo (value_at m) looks
  may_turn m plan rest turns may =
      subst (λ (p : Plan T R). May Can Took value_at m p
      → (end : R) × Steps Took value_at m p m end × (looks : List (ℕ × T)) × AllLooked m p m end looks × TurnsTo (shown_in looks) p end × IsSo (value_at m) looks) (sym turns)
      (λ see.
      let s = sees_end (value_at m) rest see in
      let ends = ended (value_at m) rest s.0 s.1 in
      let l = looked (value_at m) rest s.0 ends see in (s.0, (refl, ends), l.0, looked_turn m rest s.0 ends l.0 l.3, l.2, l.1))
      may

  -- with one block more the step comes to the same, and may look at what it looks at
  pub follows_more : (m : Mem T) (plan : Plan T R) (out : Out T) (end : R) (looks : List (ℕ × T)) (b : ℕ) (x : T) → value_at m b ≡ Some x → IsSo (value_at m) looks
      → FollowsBy (shown_in looks) plan out end → FollowsBy (shown_in ((b, x) ∷ looks)) plan out end
  follows_more m (Turn rest) out end looks b x is so f = f
  follows_more m (Do op rest) out end looks b x is so f = ends_on (shown_in looks) (shown_in ((b, x) ∷ looks)) (shown_on (value_at m) looks b x is so) (rest out) end f

  pub may_more : (m : Mem T) (plan : Plan T R) (out : Out T) (looks : List (ℕ × T)) (b : ℕ) (x : T) → value_at m b ≡ Some x → IsSo (value_at m) looks → MayFollow (shown_in looks) plan out
      → MayFollow (shown_in ((b, x) ∷ looks)) plan out
  may_more m (Turn rest) out looks b x is so f = f
  may_more m (Do op rest) out looks b x is so f = may_on (shown_in looks) (shown_in ((b, x) ∷ looks)) (shown_on (value_at m) looks b x is so) (rest out) f

  pub turns_more : (m : Mem T) (plan : Plan T R) (end : R) (looks : List (ℕ × T)) (b : ℕ) (x : T) → value_at m b ≡ Some x → IsSo (value_at m) looks → TurnsTo (shown_in looks) plan end
      → TurnsTo (shown_in ((b, x) ∷ looks)) plan end
  turns_more m (Turn rest) end looks b x is so f = ends_on (shown_in looks) (shown_in ((b, x) ∷ looks)) (shown_on (value_at m) looks b x is so) rest end f
  turns_more m (Do op rest) end looks b x is so f = f
