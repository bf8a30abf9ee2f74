use Rattle.ada_compact.proofs.comparison.Comparison.are_places_right.Goals as goal

-- the places that were gone through are those of the names
pub returns : goal.returns
returns c = λ rise. record {
  olds = c.places-places.ensures.rise;
  alike = rw (← c.places-places.ensures.places) (c.are_alike_places.ensures c.if-not-are_alike_places.false);
  rise = λ kind. rw (← c.places-places.ensures.places) (c.rise.ensures rise kind);
}
