-- What the private functions of the profile say of the streams taken apart. Nothing here need be believed.
-- Assumes nothing.
use Rattle.std.specs.Prelude.{List}
use Rattle.places.specs.declared.Place.{Place}
use Rattle.profile.specs.declared.Streams.{Streams}
use Rattle.profile.specs.ProfileClauses.{laid_to}

abbrev pub laid : Streams → List Place
laid s = laid_to s.highs s.lows s.n
