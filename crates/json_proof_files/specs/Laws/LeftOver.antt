-- An object of which a member is left after eight that are read is none.
use Rattle.std.proofs.Common.{◌≡◌, Option, Some, None, option_map, refl, ◌∙◌, ap}
use Rattle.std.specs.Prelude.{option_and_then}
use Rattle.serde_json.specs.Data.{Data, Members, no_members, member}
use Rattle.serde_json.specs.Find.{as_object}
use Rattle.json_forms.specs.Readings.{MembersReading, if_last, object_reading, then_reading}

both_read : {A B : Type 0} (first : MembersReading A) (second : MembersReading B) (x : A) (y : B) (all some left : Members) → first all ≡ Some (x, some) → second some ≡ Some (y, left)
    → then_reading first second all ≡ Some ((x, y), left)
both_read first second x y all some left p q =
    ap (λ o. option_and_then (λ r. option_map (λ s. ((r.0, s.0), s.1)) (second r.1)) o) p ∙ ap (λ o. option_map (λ s. ((x, s.0), s.1)) o) q

not_last : {A B : Type 0} (make : A → B) (x : A) (left : Members) → (left ≡ no_members → ⊥) → option_map make (if_last x left) ≡ None
not_last make x no_members h = absurd (h refl)
not_last make x (member k d ms) h = refl

left_over : {A B : Type 0} (make : A → B) (reading : MembersReading A) (d : Data) (all left : Members) (x : A) → as_object d ≡ Some all → reading all ≡ Some (x, left) → (left ≡ no_members → ⊥)
    → option_map make (object_reading reading d) ≡ None
left_over make reading d all left x p q h =
    ap (λ o. option_map make (option_and_then (λ r. if_last r.0 r.1) (option_and_then reading o))) p
    ∙ (ap (λ o. option_map make (option_and_then (λ r. if_last r.0 r.1) o)) q ∙ not_last make x left h)

module _ {A B C D E F G H : Type 0} (a : MembersReading A) (b : MembersReading B) (c : MembersReading C) (d : MembersReading D) (e : MembersReading E) (f : MembersReading F) (g : MembersReading G) (h : MembersReading H) where
  pub eight_left_over : {R : Type 0} (make : A × (B × (C × (D × (E × (F × (G × H)))))) → R) (tree : Data) (m0 m1 m2 m3 m4 m5 m6 m7 m8 : Members) (x1 : A) (x2 : B) (x3 : C) (x4 : D) (x5 : E) (x6 : F) (x7 : G) (x8 : H)
      → as_object tree ≡ Some m0 → a m0 ≡ Some (x1, m1) → b m1 ≡ Some (x2, m2) → c m2 ≡ Some (x3, m3) → d m3 ≡ Some (x4, m4) → e m4 ≡ Some (x5, m5) → f m5 ≡ Some (x6, m6) → g m6 ≡ Some (x7, m7) → h m7 ≡ Some (x8, m8)
      → (m8 ≡ no_members → ⊥)
      → option_map make (object_reading (then_reading a (then_reading b (then_reading c (then_reading d (then_reading e (then_reading f (then_reading g h))))))) tree) ≡ None
  eight_left_over make tree m0 m1 m2 m3 m4 m5 m6 m7 m8 x1 x2 x3 x4 x5 x6 x7 x8 o p1 p2 p3 p4 p5 p6 p7 p8 left =
      let gh = then_reading g h in
      let fg = then_reading f gh in
      let ef = then_reading e fg in
      let de = then_reading d ef in
      let cd = then_reading c de in
      let bc = then_reading b cd in
      left_over make (then_reading a bc) tree m0 m8 (x1, (x2, (x3, (x4, (x5, (x6, (x7, x8))))))) o
      (both_read a bc x1 (x2, (x3, (x4, (x5, (x6, (x7, x8)))))) m0 m1 m8 p1
      (both_read b cd x2 (x3, (x4, (x5, (x6, (x7, x8))))) m1 m2 m8 p2
      (both_read c de x3 (x4, (x5, (x6, (x7, x8)))) m2 m3 m8 p3
      (both_read d ef x4 (x5, (x6, (x7, x8))) m3 m4 m8 p4
      (both_read e fg x5 (x6, (x7, x8)) m4 m5 m8 p5
      (both_read f gh x6 (x7, x8) m5 m6 m8 p6 (both_read g h x7 x8 m6 m7 m8 p7 p8)))))))
      left
