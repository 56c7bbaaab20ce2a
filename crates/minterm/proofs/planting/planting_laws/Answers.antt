use Rattle.minterm.proofs.planting.planting_laws.Goals as goal

pub returns : goal.returns
returns c = record { planted_stay = c.planted_terms_stay.ensures; places_stay = c.terms_of_places_stay.ensures }
