mod BroughtModels
