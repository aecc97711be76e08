use Rattle.std.proofs.Common.{sym, ap, rules}
use Rattle.sheet.specs.Readers.{most_at, slots_in}
use Rattle.sheet.proofs.Steps.{room_from, offer_taken, taken_by}
use Rattle.sheet.proofs.reader.Reader.accept.Goals as goal
use Rattle.sheet.proofs.reader.Reader.accept.Goals.{in-Frame-Frame+in_ok-check_size-in-Frame-Frame, in-Coarse-Coarse+in_ok-check-in-Coarse-Coarse, in-Body-Offer+in_ok-check_room-in-Body-Offer}

pub returns : goal.returns
returns c =
    elim c.match-self.branch [
      | in-Frame-Frame+in_ok-check_size-in-Frame-Frame w ↦ search rules
      | in-Coarse-Coarse+in_ok-check-in-Coarse-Coarse w ↦ search rules
      | in-Body-Offer+in_ok-check_room-in-Body-Offer w ↦
          let reader = c.args.self.now in
          let sheet = w.in-Body-Offer.sheet in
          let room = room_from (most_at reader) sheet.offers _ w.in_ok-check_room-in-Body-Offer.ensures in
          let step =
          taken_by reader.line _ _ (slots_in reader) _ _ _ _ _ _ w.in-Body-Offer.is-0 w.in-Body-Offer.is-1 w.self2-is (ap (λ r. r.1.0.now) w.self-is)
          (offer_taken reader.line sheet (slots_in reader) w.in-Body-Offer.offer room)
          in
          record {
            step = record { lent = ap (λ r. r.1.0.ghost_name) (sym w.self-is); same = step.same; stage = step.stage; used = step.used; long = step.long; rest = step.rest };
            line = ap (λ r. r.1.1.0) w.self-is;
          }
    ]
