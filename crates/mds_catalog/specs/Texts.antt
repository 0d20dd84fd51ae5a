-- The texts of published documents: each as it is served with the moment of its publication (MDS 2.0 Policy and
-- Geography, `published_date`).
use Rattle.std.specs.Prelude.{ℕ, List, Some}
use Rattle.mds_text.specs.Printed.{printed}
use Rattle.mds_policy.specs.Policy.{Policy}
use Rattle.mds_policy.specs.Served as policy
use Rattle.mds_geography.specs.Geography.{Geography}
use Rattle.mds_geography.specs.Served as geography

-- the text of a policy that is published at a moment
unfoldable pub policy_text : ℕ → Policy → List ℕ
policy_text moment p = printed (policy.served p (Some moment))

-- the text of a geography that is published at a moment
unfoldable pub geography_text : ℕ → Geography → List ℕ
geography_text moment g = printed (geography.served g (Some moment))
