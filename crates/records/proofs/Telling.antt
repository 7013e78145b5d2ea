-- What the code's answers tell of the faults of the definitions.
use Rattle.std.proofs.Common.{Option, Some, None, false, true, is_some, ◌≡◌, ℕ, List, Result, refl, ◌∙◌}
use Rattle.refusals.specs.declared.Refusal.{Refusal}
use Rattle.records.specs.Entries.{Entry}
use Rattle.records.specs.Shapes.{Shape}
use Rattle.records.specs.Scan.{fault_at_lem, record_at_lem, name, vacuous_of_lem, number_fault_lem, reference_fault_lem, empty_fault_lem, body_fault}
use Rattle.records.specs.Kinds.{wanted_no, sort_no}
use Rattle.records.specs.RecordTable.{Refuses, Tells}
use Rattle.records.specs.declared.shapes.Sort.{Sort}
use Rattle.records.specs.declared.shapes.Sort.TheVariants.{Concept, Role, Axiom}
use Rattle.refusals.proofs.Numbering.{number_not_zero}
use Rattle.records.proofs.Faults.{name-keeps, second, body-number, body-first, body_second, body_last}
use native.Mathlib.Omega.{arith}

pub sort_some : (s : Sort) → sort_no s ≡ 0 → ⊥
sort_some Concept e = omega arith
sort_some Role e = omega arith
sort_some Axiom e = omega arith

pub wanted_some : (w : Option Sort) → is_some w ≡ true → wanted_no w ≡ 0 → ⊥
wanted_some None e z = cc
wanted_some (Some s) e z = sort_some s z

pub wanted_none : (w : Option Sort) → is_some w ≡ false → wanted_no w ≡ 0
wanted_none None e = refl
wanted_none (Some s) e = cc

-- naming records changes no flag of emptiness
pub name-vacuous : (es : List Entry) (w r i : ℕ) → (record_at_lem (name es w r) i).vacuous ≡ (record_at_lem es i).vacuous
name-vacuous es w r i = name-keeps (λ e. e.vacuous) (λ e. refl) es w r i

pub both-vacuous : (es : List Entry) (w x a b i : ℕ) → (record_at_lem (name (name es w a) x b) i).vacuous ≡ (record_at_lem es i).vacuous
both-vacuous es w x a b i = name-vacuous (name es w a) x b i ∙ name-vacuous es w a i

pub both-empty : (es : List Entry) (w x a b : ℕ) (s : Shape) (c : ℕ) → empty_fault_lem (name (name es w a) x b) s c ≡ empty_fault_lem es s c
unfolding empty_fault_lem
both-empty es w x a b s c = rw (both-vacuous es w x a b c)

pub vacuous-same : (es us : List Entry) (k a b : ℕ) → ((i : ℕ) → (record_at_lem us i).vacuous ≡ (record_at_lem es i).vacuous) →
    vacuous_of_lem us k a b ≡ vacuous_of_lem es k a b
unfolding vacuous_of_lem
vacuous-same es us k a b h = rw (h a, h b)

-- the first fault of a body, by the test that fails
module _ (es : List Entry) (s : Shape) (a b at : ℕ) where
  pub tells-number : (r : Refusal) → Refuses at (fault_at_lem 0 (number_fault_lem s a)) r → Refuses at (body_fault es s a b) r
  tells-number r t = rw (← body-number es s a b (λ z. number_not_zero r.reason (t.0 ∙ z))) t

  module _ (n : number_fault_lem s a ≡ 0) where
    pub tells-one : (r : Refusal) → Refuses at (fault_at_lem 1 (reference_fault_lem es s.first a)) r → Refuses at (body_fault es s a b) r
    tells-one r t = rw (← body-first es s a b n (λ z. number_not_zero r.reason (t.0 ∙ z))) t

    module _ (f : reference_fault_lem es s.first a ≡ 0) where
      pub tells_two : (r : Refusal) → Refuses at (fault_at_lem 2 (second es s a b)) r → Refuses at (body_fault es s a b) r
      tells_two r t = rw (← body_second es s a b n f (λ z. number_not_zero r.reason (t.0 ∙ z))) t

      pub tells_empty : (r : Result Unit Refusal) → second es s a b ≡ 0 → Tells at (fault_at_lem 0 (empty_fault_lem es s a)) r → Tells at (body_fault es s a b) r
      tells_empty r g t = rw (← body_last es s a b n f g) t
