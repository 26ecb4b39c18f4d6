use Rattle.std.proofs.Common.{◌≡◌, ◌∙◌, ◌≤◌, ap, sym, arith, ℕ}
use Rattle.dns_wire.specs.Reading.{octets, place}
use Rattle.message_walk.specs.Walks.{Walk}
use Rattle.message_walk.proofs.WalkSteps.{additional_stands, answer_stands, authority_stands, next_additional}
use Rattle.message_walk.proofs.WalkSteps.{next_answer, next_authority, nothing_next, stand_at, stepped}
use Rattle.message_walk.proofs.record_walk.RecordWalk.next.Goals as goal

is_none : (n : ℕ) → n ≤ 0 → n ≡ 0
is_none n le = omega arith

pub step-requires-clause-stands : goal.step-requires-clause-stands
step-requires-clause-stands c =
    (answer_stands (octets c.self.inside.reader) (place c.self.inside.reader) c.self.inside.answers
    c.self.inside.authorities c.self.inside.additionals c.if-self-gt0.true c.self.invariant).first

pub invariant_of-self : goal.invariant_of-self
invariant_of-self c =
    stand_at (octets c.self.inside.reader) (octets c.step.new.decoder) _ (place c.step.new.decoder) _ _ _
    c.step.ensures.octets c.step.ensures.place
    (answer_stands (octets c.self.inside.reader) (place c.self.inside.reader) c.self.inside.answers
    c.self.inside.authorities c.self.inside.additionals c.if-self-gt0.true c.self.invariant).behind

pub returns-then-self-gt0-clause-next : goal.returns-then-self-gt0-clause-next
returns-then-self-gt0-clause-next c =
    stepped _ _ (octets c.self.inside.reader) (octets c.step.new.decoder) _ (place c.step.new.decoder) _ _ _ _
    c.step.ensures.found c.step.ensures.octets c.step.ensures.place
    (ap (λ (w : Walk). w.left) (sym c.self.view_is)
    ∙ next_answer (octets c.self.inside.reader) (place c.self.inside.reader) c.self.inside.answers
    c.self.inside.authorities c.self.inside.additionals c.if-self-gt0.true)

pub step-requires-then-self-gt0-2-clause-stands : goal.step-requires-then-self-gt0-2-clause-stands
step-requires-then-self-gt0-2-clause-stands c =
    (authority_stands (octets c.self.inside.reader) (place c.self.inside.reader) c.self.inside.answers
    c.self.inside.authorities c.self.inside.additionals
    (is_none _ c.if-self-gt0.false) c.if-self-gt0-2.true c.self.invariant).first

pub invariant_of-self-then-self-gt0-2 : goal.invariant_of-self-then-self-gt0-2
invariant_of-self-then-self-gt0-2 c =
    stand_at (octets c.self.inside.reader) (octets c.step-then-self-gt0-2.new.decoder) _ (place c.step-then-self-gt0-2.new.decoder) _ _ _
    c.step-then-self-gt0-2.ensures.octets c.step-then-self-gt0-2.ensures.place
    (authority_stands (octets c.self.inside.reader) (place c.self.inside.reader) c.self.inside.answers
    c.self.inside.authorities c.self.inside.additionals
    (is_none _ c.if-self-gt0.false) c.if-self-gt0-2.true c.self.invariant).behind

pub returns-then-self-gt0-2-clause-next : goal.returns-then-self-gt0-2-clause-next
returns-then-self-gt0-2-clause-next c =
    stepped _ _ (octets c.self.inside.reader) (octets c.step-then-self-gt0-2.new.decoder) _ (place c.step-then-self-gt0-2.new.decoder) _ _ _ _
    c.step-then-self-gt0-2.ensures.found c.step-then-self-gt0-2.ensures.octets c.step-then-self-gt0-2.ensures.place
    (ap (λ (w : Walk). w.left) (sym c.self.view_is)
    ∙ next_authority (octets c.self.inside.reader) (place c.self.inside.reader) c.self.inside.answers
    c.self.inside.authorities c.self.inside.additionals
    (is_none _ c.if-self-gt0.false) c.if-self-gt0-2.true)

pub step-requires-then-self-gt0-3-clause-stands : goal.step-requires-then-self-gt0-3-clause-stands
step-requires-then-self-gt0-3-clause-stands c =
    (additional_stands (octets c.self.inside.reader) (place c.self.inside.reader) c.self.inside.answers
    c.self.inside.authorities c.self.inside.additionals
    (is_none _ c.if-self-gt0.false) (is_none _ c.if-self-gt0-2.false) c.if-self-gt0-3.true c.self.invariant).first

pub invariant_of-self-then-self-gt0-3 : goal.invariant_of-self-then-self-gt0-3
invariant_of-self-then-self-gt0-3 c =
    stand_at (octets c.self.inside.reader) (octets c.step-then-self-gt0-3.new.decoder) _ (place c.step-then-self-gt0-3.new.decoder) _ _ _
    c.step-then-self-gt0-3.ensures.octets c.step-then-self-gt0-3.ensures.place
    (additional_stands (octets c.self.inside.reader) (place c.self.inside.reader) c.self.inside.answers
    c.self.inside.authorities c.self.inside.additionals
    (is_none _ c.if-self-gt0.false) (is_none _ c.if-self-gt0-2.false) c.if-self-gt0-3.true c.self.invariant).behind

pub returns-then-self-gt0-3-clause-next : goal.returns-then-self-gt0-3-clause-next
returns-then-self-gt0-3-clause-next c =
    stepped _ _ (octets c.self.inside.reader) (octets c.step-then-self-gt0-3.new.decoder) _ (place c.step-then-self-gt0-3.new.decoder) _ _ _ _
    c.step-then-self-gt0-3.ensures.found c.step-then-self-gt0-3.ensures.octets c.step-then-self-gt0-3.ensures.place
    (ap (λ (w : Walk). w.left) (sym c.self.view_is)
    ∙ next_additional (octets c.self.inside.reader) (place c.self.inside.reader) c.self.inside.answers
    c.self.inside.authorities c.self.inside.additionals
    (is_none _ c.if-self-gt0.false) (is_none _ c.if-self-gt0-2.false) c.if-self-gt0-3.true)

pub returns-clause-next : goal.returns-clause-next
returns-clause-next c =
    let none = nothing_next (octets c.self.inside.reader) (place c.self.inside.reader) c.self.inside.answers
    c.self.inside.authorities c.self.inside.additionals (is_none _ c.if-self-gt0.false)
    (is_none _ c.if-self-gt0-2.false) (is_none _ c.if-self-gt0-3.false) in
    let left = ap (λ (w : Walk). w.left) (sym c.self.view_is) ∙ none in
    (left, left)
