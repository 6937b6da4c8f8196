-- Pieces written one behind the other are one piece.
use mathlib.Core.Path.{◌≡◌, refl, sym, ap, ◌∙◌}
use mathlib.Core.List.{List, [], ◌∷◌, ◌++◌}
use Prim.Native.Nat.{ℕ, suc, ◌+◌, ◌≤◌}
use native.Mathlib.Omega.{arith}
use lib.ListN.{length, take, drop, set, length-append}
use lib.Seq.{sets, length-sets, sets-eq}
use Rattle.text.specs.Written.{Written}

sets-append : (l p q : List ℕ) (i : ℕ) → sets (sets l i p) (i + length p) q ≡ sets l i (p ++ q)
sets-append l [] q i = let e : i + 0 ≡ i = omega arith in rw e
sets-append l (a ∷ p) q i =
    let e : i + suc (length p) ≡ suc i + length p = omega arith in
    rw e (sets-append (set l i a) p q (suc i))

-- the same piece otherwise written
pub written_as : {a p q b : List ℕ} {i j : ℕ} → p ≡ q → Written a i p b j → Written a i q b j
written_as {a} {p} {q} {b} {i} {j} e w = rw e at w

pub then : {a b c p q : List ℕ} {i j k : ℕ} → Written a i p b j → Written b j q c k → Written a i (p ++ q) c k
then {a} {b} {c} {p} {q} {i} {j} {k} v w =
    record {
      text_is = w.text_is ∙ ap (λ x. sets x j q) v.text_is ∙ ap (λ n. sets (sets a i p) n q) v.end_is ∙ sets-append a p q i;
      long_is = w.long_is ∙ v.long_is;
      end_is = omega (arith, length-append p q, v.end_is, w.end_is);
    }

-- the buffer in three parts
pub written_parts : {a p b : List ℕ} {i j : ℕ} → Written a i p b j → j ≤ length a → b ≡ take i a ++ p ++ drop j a
written_parts {a} {p} {b} {i} {j} w h = w.text_is ∙ sets-eq p a i (omega (arith, w.end_is)) ∙ ap (λ n. take i a ++ p ++ drop n a) (sym w.end_is)

-- a piece at the front of a buffer
pub written_front : {a l p b : List ℕ} {i j : ℕ} → Written a i p b j → a ≡ l → i ≡ 0 → length p ≤ length l → b ≡ p ++ drop (length p) l
written_front {a} {l} {p} {b} {i} {j} w e z h =
    let w0 = rw (e, z) at w in
    let j_is : j ≡ length p = omega (arith, w0.end_is) in
    written_parts w0 (omega arith) ∙ ap (λ n. p ++ drop n l) j_is

-- What a loop that writes a whole piece by piece keeps: to write the rest now is to write the whole at the start.
pub record Remains (start : List ℕ) (at : ℕ) (whole text : List ℕ) (next : ℕ) (rest : List ℕ) : Type 0 where
  pub text_is : sets text next rest ≡ sets start at whole
  pub end_is : next + length rest ≡ at + length whole

pub remains_all : {start whole : List ℕ} {at : ℕ} → Remains start at whole start at whole
remains_all = record { text_is = refl; end_is = refl }

pub remains_less : {start whole text after piece : List ℕ} {at next end : ℕ} (rest : List ℕ) → Remains start at whole text next (piece ++ rest) → Written text next piece after end → Remains start at whole after end rest
remains_less {start} {whole} {text} {after} {piece} {at} {next} {end} rest r w =
    record {
      text_is = ap (λ x. sets x end rest) w.text_is ∙ ap (λ n. sets (sets text next piece) n rest) w.end_is ∙ sets-append text piece rest next ∙ r.text_is;
      end_is = omega (arith, length-append piece rest, r.end_is, w.end_is);
    }

pub remains_long : {start whole text rest : List ℕ} {at next : ℕ} → Remains start at whole text next rest → length text ≡ length start
remains_long {start} {whole} {text} {rest} {at} {next} r = sym (length-sets text next rest) ∙ ap length r.text_is ∙ length-sets start at whole

pub remains_none : {start whole text : List ℕ} {at next : ℕ} → Remains start at whole text next [] → Written start at whole text next
remains_none r = record { text_is = r.text_is; long_is = remains_long r; end_is = omega (arith, r.end_is) }
